-- The addresses and the warnings of more and more lines.
use Rattle.std.proofs.Common.{◌≡◌, ◌∙◌, ◌+◌, ◌<◌, ◌≤◌, ◌++◌, ℕ, Bool, true, false, List, [], ◌∷◌, add-one, ap, append_assoc, arith, get_or, inl, inr, length, map, refl, subst, sym, take}
use Rattle.std.specs.Prelude.{Err, Ok, OnOk, Option, Result, if◌then◌else◌, option_to_list}
use Rattle.std.proofs.Math.Seq.{take-suc}
use Rattle.std.proofs.lemmas.List.{append-nil, map-append}
use Rattle.admin_text.specs.Places.{ArePlaces, IsPlaceOf}
use Rattle.admin_text.specs.SaidLines.{Adds, AreLines}
use Rattle.admin_text.specs.Statements.{Said, said_by}
use Rattle.admin_text.specs.Warnings.{AreWarnings, AreWarningsAmong, AreWarningsBeside, AreWarningsOf, IsOutside, line_warnings, names_line, unnamed, warned, warned_head}
use Rattle.admin_text.specs.declared.faults.FaultyLine.{FaultyLine}
use Rattle.admin_text.specs.declared.places.Place.{Place}
use Rattle.admin_text.specs.declared.statements.Statement.{Statement}
use Rattle.admin_text.specs.declared.warnings.WarnedLine.{WarnedLine}
use Rattle.admin_text.specs.declared.warnings.Warning.{Warning}
use Rattle.admin_text.specs.declared.warnings.Warnings.{Warnings}
use Rattle.admin_text.proofs.RefusalLaws.{next_lines}

-- ---- one more line

places_on : (lines : List Said) (line : Said) (place : Option Place) (found : List Place) → ArePlaces lines found → IsPlaceOf line place
    → ArePlaces (lines ++ line ∷ []) (found ++ option_to_list place)
places_on [] line place found none is =
    (place, [], is, ap (λ some. some ++ option_to_list place) none ∙ sym (append-nil (option_to_list place)), refl)
places_on (first ∷ lines) line place found (one, more, has, split, rest) is = (
  one,
  more ++ option_to_list place,
  has,
  ap (λ all. all ++ option_to_list place) split ∙ append_assoc (option_to_list one) more (option_to_list place),
  places_on lines line place more rest is,
)

warnings_on : (all : List Place) (slashed : Bool) (lines : List Said) (line : Said) (place : Option Place) (outside : Option Warning)
    (found : List WarnedLine) → AreWarnings all slashed lines found → IsPlaceOf line place → IsOutside place line.1 outside
    → AreWarnings all slashed (lines ++ line ∷ []) (found ++ warned line.0 (line_warnings all slashed place outside line.1))
warnings_on all slashed [] line place outside found none is away =
    let last = warned line.0 (line_warnings all slashed place outside line.1) in
    (place, outside, [], is, away, ap (λ some. some ++ last) none ∙ sym (append-nil last), refl)
warnings_on all slashed (first ∷ lines) line place outside found (one, out, more, has, lies, split, rest) is away =
    let last = warned line.0 (line_warnings all slashed place outside line.1) in (
      one,
      out,
      more ++ last,
      has,
      lies,
      ap (λ some. some ++ last) split ∙ append_assoc (warned first.0 (line_warnings all slashed one out first.1)) more last,
      warnings_on all slashed lines line place outside more rest is away,
    )

-- ---- the lines that no fault names

unnamed_last : (named : Bool) (first line : Said) (lines more : List Said) → more ≡ lines ++ line ∷ []
    → (if named then more else first ∷ more) ≡ (if named then lines else first ∷ lines) ++ line ∷ []
unnamed_last true first line lines more same = same
unnamed_last false first line lines more same = ap (λ all. first ∷ all) same

kept_last : (faults : List FaultyLine) (lines : List Said) (line : Said) → names_line faults line.0 ≡ false
    → unnamed faults (lines ++ line ∷ []) ≡ unnamed faults lines ++ line ∷ []
kept_last faults [] line other = rw other refl
kept_last faults (first ∷ lines) line other =
    unnamed_last (names_line faults first.0) first line (unnamed faults lines) (unnamed faults (lines ++ line ∷ [])) (kept_last faults lines line other)

passed_last : (faults : List FaultyLine) (lines : List Said) (line : Said) → names_line faults line.0 ≡ true
    → unnamed faults (lines ++ line ∷ []) ≡ unnamed faults lines
passed_last faults [] line named = rw named refl
passed_last faults (first ∷ lines) line named =
    ap (λ (more : List Said). if names_line faults first.0 then more else first ∷ more) (passed_last faults lines line named)

all_unnamed : (lines : List Said) → unnamed [] lines ≡ lines
all_unnamed [] = refl
all_unnamed (line ∷ lines) = ap (λ more. line ∷ more) (all_unnamed lines)

pub warned_without : (faults : List FaultyLine) (lines : List Said) (w : Warnings) → faults ≡ [] → AreWarningsBeside faults lines w
    → AreWarningsOf lines w
warned_without faults lines w none (inl (few, among)) =
    subst (λ some. AreWarningsAmong some lines w) (ap (λ found. unnamed found lines) none ∙ all_unnamed lines) among
warned_without faults lines w none (inr (many, nothing)) = let no : length faults ≡ 0 = ap length none in absurd (omega (arith, no, many))

-- ---- as the code has the lines

pub taken_more : (lines : List Statement) (i : ℕ) (s : Statement) → i < length lines → s ≡ get_or lines i s
    → map said_by (take (i + 1) lines) ≡ map said_by (take i lines) ++ said_by s ∷ []
taken_more lines i s less is =
    ap (λ n. map said_by (take n lines)) (add-one i) ∙ ap (map said_by) (take-suc lines i s less) ∙ map-append said_by (take i lines) (get_or lines i s ∷ [])
    ∙ ap (λ last. map said_by (take i lines) ++ said_by last ∷ []) (sym is)

pub next_places : (lines : List Statement) (i : ℕ) (s : Statement) (place : Option Place) (found all : List Place) → i < length lines
    → s ≡ get_or lines i s → ArePlaces (map said_by (take i lines)) found → IsPlaceOf (said_by s) place → all ≡ found ++ option_to_list place
    → ArePlaces (map said_by (take (i + 1) lines)) all
next_places lines i s place found all less is so_far has pushed =
    subst (λ some. ArePlaces some all) (sym (taken_more lines i s less is))
    (subst (ArePlaces (map said_by (take i lines) ++ said_by s ∷ [])) (sym pushed) (places_on (map said_by (take i lines)) (said_by s) place found so_far has))

pub next_warnings : (places : List Place) (slashed : Bool) (faults : List FaultyLine) (lines : List Statement) (i : ℕ) (s : Statement)
    (place : Option Place) (outside : Option Warning) (found all : List WarnedLine) → i < length lines → s ≡ get_or lines i s
    → names_line faults s.number ≡ false → AreWarnings places slashed (unnamed faults (map said_by (take i lines))) found
    → IsPlaceOf (said_by s) place → IsOutside place (map (λ word. word.now) s.words.items) outside
    → all ≡ found ++ warned s.number (line_warnings places slashed place outside (map (λ word. word.now) s.words.items))
    → AreWarnings places slashed (unnamed faults (map said_by (take (i + 1) lines))) all
next_warnings places slashed faults lines i s place outside found all less is other so_far has away pushed =
    let before = map said_by (take i lines) in
    subst (λ some. AreWarnings places slashed some all)
    (sym (ap (unnamed faults) (taken_more lines i s less is) ∙ kept_last faults before (said_by s) other))
    (subst (AreWarnings places slashed (unnamed faults before ++ said_by s ∷ [])) (sym pushed)
    (warnings_on places slashed (unnamed faults before) (said_by s) place outside found so_far has away))

-- a line that a fault names
pub no_warnings : (places : List Place) (slashed : Bool) (faults : List FaultyLine) (lines : List Statement) (i : ℕ) (s : Statement)
    (found : List WarnedLine) → i < length lines → s ≡ get_or lines i s → names_line faults s.number ≡ true
    → AreWarnings places slashed (unnamed faults (map said_by (take i lines))) found
    → AreWarnings places slashed (unnamed faults (map said_by (take (i + 1) lines))) found
no_warnings places slashed faults lines i s found less is named so_far =
    subst (λ some. AreWarnings places slashed some found)
    (sym (ap (unnamed faults) (taken_more lines i s less is) ∙ passed_last faults (map said_by (take i lines)) (said_by s) named)) so_far

-- ---- the lines that say them

pub warning_said : {E : Type 0} (r : Result (Unit {0}) E) (found all : List WarnedLine) (line : WarnedLine) (before after : List ℕ)
    → all ≡ found ++ line ∷ [] → AreLines (map warned_head found) before → OnOk r (Adds (warned_head line) before after)
    → OnOk r (AreLines (map warned_head all) after)
warning_said (Ok done) found all line before after pushed so_far adds =
    subst (λ heads. AreLines heads after) (sym (ap (map warned_head) pushed ∙ map-append warned_head found (line ∷ [])))
    (next_lines (map warned_head found) (warned_head line) before after adds so_far)
warning_said (Err error) found all line before after pushed so_far adds = tt
