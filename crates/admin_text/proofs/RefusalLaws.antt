-- The faults of more and more lines, and the lines that say them.
use Rattle.std.proofs.Common.{◌≡◌, ◌∙◌, ◌+◌, ◌<◌, ◌++◌, ◌&&◌, false, true, ℕ, List, [], ◌∷◌, add-one, ap, append_assoc, codes, get_or, length, map, refl, subst, sym, take}
use Rattle.std.specs.Prelude.{Result}
use Rattle.std.proofs.Math.Seq.{take-suc}
use Rattle.std.specs.List.{list_all}
use Rattle.std.proofs.lemmas.List.{append-nil, map-append}
use Rattle.std.proofs.lemmas.List.Folds.{list_all-append}
use Rattle.admin_text.specs.Lines.{IsRead}
use Rattle.admin_text.specs.Outcomes.{fault_in}
use Rattle.admin_text.specs.Refusals.{AreFaultsOf, lacking_head, listed, refuses_meant}
use Rattle.admin_text.specs.SaidLines.{Adds, AddsPrintable, AreLines, is_printable}
use Rattle.admin_text.specs.Statements.{Said}
use Rattle.admin_text.specs.declared.line_kinds.LineKind.{LineKind}
use Rattle.admin_text.specs.declared.faults.Fault.{Fault}
use Rattle.admin_text.specs.declared.faults.FaultyLine.{FaultyLine}
use Rattle.admin_text.specs.declared.settings.Setting.{Setting}

-- ---- one more line

pub faults_more : (before lines : List Said) (line : Said) (outcome : Result Setting Fault) (found : List FaultyLine) → AreFaultsOf before lines found
    → IsRead (before ++ lines) line.1 outcome → AreFaultsOf before (lines ++ line ∷ []) (found ++ listed line.0 (fault_in outcome))
faults_more before [] line outcome found none read = (
  outcome,
  [],
  subst (λ said. IsRead said line.1 outcome) (append-nil before) read,
  ap (λ first. first ++ listed line.0 (fault_in outcome)) none ∙ sym (append-nil (listed line.0 (fault_in outcome))),
  refl,
)
faults_more before (first ∷ lines) line outcome found (one, more, is, split, rest) read = (
  one,
  more ++ listed line.0 (fault_in outcome),
  is,
  ap (λ all. all ++ listed line.0 (fault_in outcome)) split ∙ append_assoc (listed first.0 (fault_in one)) more (listed line.0 (fault_in outcome)),
  faults_more (before ++ first ∷ []) lines line outcome more rest
      (subst (λ said. IsRead said line.1 outcome) (sym (append_assoc before (first ∷ []) lines)) read),
)

-- ---- one more line of text

lines_more : (heads : List (List ℕ)) (head text sentence : List ℕ) → AreLines heads text → list_all is_printable sentence ≡ true
    → AreLines (heads ++ head ∷ []) (text ++ (head ++ (sentence ++ 10 ∷ [])))
lines_more [] head text sentence none is = (sentence, [], ap (λ first. first ++ (head ++ (sentence ++ 10 ∷ []))) none, is, refl)
lines_more (first ∷ heads) head text sentence (one, more, split, printable, rest) is =
    let line = head ++ (sentence ++ 10 ∷ []) in (
      one,
      more ++ line,
      ap (λ all. all ++ line) split ∙ append_assoc first (one ++ 10 ∷ more) line ∙ ap (λ all. first ++ all) (append_assoc one (10 ∷ more) line),
      printable,
      lines_more heads head more sentence rest is,
    )

pub next_lines : (heads : List (List ℕ)) (head before after : List ℕ) → Adds head before after → AreLines heads before
    → AreLines (heads ++ head ∷ []) after
next_lines heads head before after (sentence, same, is) so_far =
    subst (AreLines (heads ++ head ∷ [])) (sym same) (lines_more heads head before sentence so_far is)

-- ---- printable bytes

pub nothing_added : (text : List ℕ) → AddsPrintable text text
nothing_added text = ([], sym (append-nil text), refl)

pub byte_added : (before now after : List ℕ) (byte : ℕ) → AddsPrintable before now → after ≡ now ++ byte ∷ [] → is_printable byte ≡ true
    → AddsPrintable before after
byte_added before now after byte (sentence, same, all) pushed is = (
  sentence ++ byte ∷ [],
  pushed ∙ ap (λ text. text ++ byte ∷ []) same ∙ append_assoc before sentence (byte ∷ []),
  list_all-append is_printable sentence (byte ∷ []) ∙ ap (λ first. first && (is_printable byte && true)) all ∙ ap (λ last. last && true) is,
)

pub line_added : (before headed said after head : List ℕ) → headed ≡ before ++ head → AddsPrintable headed said → after ≡ said ++ 10 ∷ []
    → Adds head before after
line_added before headed said after head begun (sentence, same, all) ended = (
  sentence,
  ended ∙ ap (λ text. text ++ 10 ∷ []) same ∙ ap (λ text. (text ++ sentence) ++ 10 ∷ []) begun
      ∙ append_assoc (before ++ head) sentence (10 ∷ []) ∙ append_assoc before head (sentence ++ 10 ∷ []),
  all,
)

-- ---- lines that lack

-- without faults no refused line is meant to be of any kind
pub refuses_none : (lines : List Said) (kind : LineKind) → refuses_meant [] lines kind ≡ false
refuses_none [] kind = refl
refuses_none (line ∷ lines) kind = refuses_none lines kind

pub lacking_said : (kinds : List LineKind) (i : ℕ) (k : LineKind) (heads : List (List ℕ)) (before after : List ℕ) → i < length kinds
    → Adds (codes "configuration: ") before after → AreLines (heads ++ map lacking_head (take i kinds)) before
    → AreLines (heads ++ map lacking_head (take (i + 1) kinds)) after
lacking_said kinds i k heads before after less adds so_far =
    let more : map lacking_head (take (i + 1) kinds) ≡ map lacking_head (take i kinds) ++ codes "configuration: " ∷ []
    = ap (λ n. map lacking_head (take n kinds)) (add-one i) ∙ ap (map lacking_head) (take-suc kinds i k less) ∙ map-append lacking_head (take i kinds) (get_or kinds i k ∷ []) in
    subst (λ hs. AreLines hs after)
    (append_assoc heads (map lacking_head (take i kinds)) (codes "configuration: " ∷ []) ∙ sym (ap (λ hs. heads ++ hs) more))
    (next_lines (heads ++ map lacking_head (take i kinds)) (codes "configuration: ") before after adds so_far)
