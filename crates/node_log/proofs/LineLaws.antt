-- Lines of the log.
use Rattle.std.proofs.Common.{◌≡◌, ◌∙◌, ◌/◌, ◌%◌, ◌<◌, ◌++◌, ◌&&◌, inl, inr, true, not, ℕ, List, [], ◌∷◌, ap, append_assoc, arith, map, refl, subst, sym}
use Rattle.std.specs.Prelude.{◌==◌, codes, nat_le, unsigned_abs}
use Rattle.std.specs.List.{list_all}
use Rattle.std.proofs.lemmas.Bool.{cases_Bool, not-true}
use Rattle.std.proofs.lemmas.Bool.Decides.{nat_tests}
use Rattle.std.proofs.lemmas.List.Folds.{list_all-append}
use Rattle.jiff_core.specs.declared.civil.datetime.DateTime.{DateTime}
use Rattle.node_core.specs.declared.events.Event.{Event}
use Rattle.node_core.specs.declared.levels.Level.{Level}
use Rattle.node_core.specs.declared.levels.Level.TheVariants as levels
use Rattle.node_log.specs.declared.lines.Form.{Form}
use Rattle.node_log.specs.declared.lines.Form.TheVariants as forms
use Rattle.node_log.specs.Events.{level_of}
use Rattle.node_log.specs.Lines.{AddsHead, AddsTime, IsHead, IsOneLine, Says, behind_colon, event_text, is_printable, level_text}
use Rattle.node_log.specs.Ranges.{is_event}
use Rattle.node_log.specs.Times.{digit, four_digits, three_digits, time_text, two_digits}
use Rattle.node_log.specs.Values.{printable}
use Rattle.node_log.proofs.EventLeads.{event_lead}
use Rattle.node_log.proofs.Leads.{IsLead, and_both, both, found_behind, is_other, leads}

pub head_dated : (form : Form) (milliseconds : ℕ) (level : Level) (before between after : List ℕ) → form ≡ forms.Dated milliseconds
    → AddsTime milliseconds before between → after ≡ between ++ level_text level → AddsHead form level before after
head_dated form milliseconds level before between after is (time, says, timed) levelled = (
  time ++ level_text level,
  subst (λ f. IsHead f level (time ++ level_text level)) (sym is) (time, says, refl),
  levelled ∙ ap (λ text. text ++ level_text level) timed ∙ append_assoc before time (level_text level),
)

-- ---- times

byte_then : (byte : ℕ) (rest : List ℕ) → is_other byte ≡ true → IsLead rest → IsLead (byte ∷ rest)
byte_then byte rest other is =
    let parts = both (is_printable byte) (not (byte == 58)) other in
    record { calm = rw (not-true (byte == 58) parts.1) is.calm; printable = and_both _ _ parts.0 is.printable }

digit_then : (n : ℕ) (rest : List ℕ) → IsLead rest → IsLead (digit n ∷ rest)
digit_then n rest is = byte_then (digit n) rest (let below : n % 10 < 10 = omega arith in grind (arith, nat_tests)) is

two_then : (n : ℕ) (rest : List ℕ) → IsLead rest → IsLead (two_digits n rest)
two_then n rest is = digit_then (n / 10) (digit n ∷ rest) (digit_then n rest is)

three_then : (n : ℕ) (rest : List ℕ) → IsLead rest → IsLead (three_digits n rest)
three_then n rest is = digit_then (n / 100) (two_digits n rest) (two_then n rest is)

four_then : (n : ℕ) (rest : List ℕ) → IsLead rest → IsLead (four_digits n rest)
four_then n rest is = digit_then (n / 1000) (three_digits n rest) (three_then n rest is)

colon_then : (n : ℕ) (rest : List ℕ) → IsLead (two_digits n rest) → IsLead (58 ∷ two_digits n rest)
colon_then n rest is =
    let goes : not (digit (n / 10) == 32) ≡ true = grind (arith, nat_tests) in
    record { calm = and_both _ _ goes is.calm; printable = is.printable }

time_lead : (at : DateTime) → IsLead (time_text at)
time_lead at =
    four_then (unsigned_abs at.date.year) _ (byte_then 45 _ refl (two_then at.date.month _ (byte_then 45 _ refl (two_then at.date.day _
    (byte_then 84 _ refl (two_then at.time.hour _ (colon_then at.time.minute _ (two_then at.time.minute _ (colon_then at.time.second _
    (two_then at.time.second _ (byte_then 46 _ refl (three_then (at.time.subsec_nanosecond / 1000000) _
    (byte_then 90 [] refl (record { calm = refl; printable = refl }))))))))))))))

-- ---- lines

level_lead : (level : Level) → IsLead (level_text level)
level_lead levels.Error = record { calm = refl; printable = refl }
level_lead levels.Warn = record { calm = refl; printable = refl }
level_lead levels.Info = record { calm = refl; printable = refl }
level_lead levels.Debug = record { calm = refl; printable = refl }

head_lead : (form : Form) (level : Level) (head : List ℕ) → IsHead form level head → IsLead head
head_lead (forms.Dated milliseconds) level head (time, (at, nanos, says), same) =
    subst IsLead (sym same) (leads time (level_text level) (subst IsLead (sym says) (time_lead at)) (level_lead level))
head_lead forms.Journal levels.Error head same = subst IsLead (sym same) (record { calm = refl; printable = refl })
head_lead forms.Journal levels.Warn head same = subst IsLead (sym same) (record { calm = refl; printable = refl })
head_lead forms.Journal levels.Info head same = subst IsLead (sym same) (record { calm = refl; printable = refl })
head_lead forms.Journal levels.Debug head same = subst IsLead (sym same) (record { calm = refl; printable = refl })

said_printable : (byte : ℕ) → is_printable (printable byte) ≡ true
said_printable byte = elim (cases_Bool (nat_le 32 byte && nat_le byte 126)) [
  | inl is ↦ rw is is
  | inr other ↦ rw other refl
]

all_printable : (sentence : List ℕ) → list_all is_printable (map printable sentence) ≡ true
all_printable [] = refl
all_printable (byte ∷ sentence) = and_both _ _ (said_printable byte) (all_printable sentence)

pub one_line : (form : Form) (event : Event) (sentence line : List ℕ) → is_event event ≡ true → Says form event sentence line → IsOneLine line
one_line form event sentence line is (head, begins, same) =
    let said : List ℕ = map printable sentence in
    let lead = head_lead form (level_of event) head begins in
    let text = event_lead event is in (
      head ++ (event_text event ++ (codes ": " ++ said)),
      same
          ∙ sym (append_assoc head (event_text event ++ (codes ": " ++ said)) (10 ∷ [])
          ∙ ap (λ rest. head ++ rest) (append_assoc (event_text event) (codes ": " ++ said) (10 ∷ []))),
      list_all-append is_printable head (event_text event ++ (codes ": " ++ said))
          ∙ and_both _ _ lead.printable
          (list_all-append is_printable (event_text event) (codes ": " ++ said) ∙ and_both _ _ text.printable (all_printable sentence)),
    )

pub found : (form : Form) (event : Event) (sentence line : List ℕ) → is_event event ≡ true → Says form event sentence line
    → behind_colon line ≡ map printable sentence ++ 10 ∷ []
found form event sentence line is (head, begins, same) =
    let lead = leads head (event_text event) (head_lead form (level_of event) head begins) (event_lead event is) in
    ap behind_colon (same ∙ sym (append_assoc head (event_text event) (codes ": " ++ (map printable sentence ++ 10 ∷ []))))
    ∙ found_behind (head ++ event_text event) (map printable sentence ++ 10 ∷ []) lead.calm
