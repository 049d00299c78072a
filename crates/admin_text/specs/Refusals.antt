-- What is wrong with a configuration, and how it is said (profile).
use Rattle.std.specs.Prelude.{◌≡◌, ◌⊎◌, ◌++◌, ◌-◌, ◌==◌, ◌&&◌, ℕ, Bool, not, List, [], ◌∷◌, Option, Some, None, Result, codes, filter, is_none, length, map, take}
use Rattle.std.specs.Fmt.{decimal}
use Rattle.std.specs.List.{list_any}
use Rattle.admin_text.specs.Before.{line_of}
use Rattle.admin_text.specs.Lines.{IsRead}
use Rattle.admin_text.specs.MeantKinds.{is_meant}
use Rattle.admin_text.specs.Outcomes.{fault_in}
use Rattle.admin_text.specs.SaidLines.{AreLines}
use Rattle.admin_text.specs.Statements.{Said}
use Rattle.admin_text.specs.Warnings.{AreWarningsBeside, names_line}
use Rattle.admin_text.specs.declared.line_kinds.LineKind.{LineKind}
use Rattle.admin_text.specs.declared.line_kinds.LineKind.TheVariants as kinds
use Rattle.admin_text.specs.declared.faults.Fault.{Fault}
use Rattle.admin_text.specs.declared.faults.FaultyLine.{FaultyLine}
use Rattle.admin_text.specs.declared.refusals.Refusal.{Refusal}
use Rattle.admin_text.specs.declared.settings.Setting.{Setting}

-- ---- which lines are refused

-- what is listed of a line
abbrev pub listed : ℕ → Option Fault → List FaultyLine
listed number None = []
listed number (Some fault) = record { number = number; fault = fault } ∷ []

-- the faults of these lines in order, behind the lines before: one of each line that is refused
abbrev pub AreFaultsOf : List Said → List Said → List FaultyLine → Type 0
AreFaultsOf before [] found = found ≡ []
AreFaultsOf before (line ∷ lines) found =
    (outcome : Result Setting Fault)
    × (more : List FaultyLine)
    × IsRead before line.1 outcome
    × (found ≡ listed line.0 (fault_in outcome) ++ more)
    × AreFaultsOf (before ++ line ∷ []) lines more

-- the faults of all these lines, or 20 of the first ones
abbrev pub AreFaults : List Said → List FaultyLine → Type 0
AreFaults lines found =
    (read unread : List Said) × (lines ≡ read ++ unread) × AreFaultsOf [] read found × ((unread ≡ []) ⊎ (length found ≡ 20))

-- ---- which lines lack

-- one of the lines that these faults name is plainly meant to be of this kind
abbrev pub refuses_meant : List FaultyLine → List Said → LineKind → Bool
refuses_meant found lines kind = list_any (λ line. names_line found line.0 && is_meant kind line.1) lines

-- none of the lines is of this kind, and none that is refused is plainly meant to be
abbrev pub is_lacking : List FaultyLine → List Said → LineKind → Bool
is_lacking found lines kind = is_none (line_of kind lines) && not (refuses_meant found lines kind)

-- the lines that lack beside these faults: one with the node's name, one with where it listens, and one with a table
abbrev pub lacking_of : List FaultyLine → List Said → List LineKind
lacking_of found lines = filter (is_lacking found lines) (kinds.Node ∷ kinds.Listen ∷ kinds.Table ∷ [])

-- ---- refusals

-- what begins the line of a fault, and that of a line that lacks
abbrev pub head_of : FaultyLine → List ℕ
head_of line = codes "line " ++ (decimal line.number ++ codes ": ")

abbrev pub lacking_head : LineKind → List ℕ
lacking_head kind = codes "configuration: "

abbrev pub heads_of : List FaultyLine → List LineKind → List (List ℕ)
heads_of found lacking = map head_of found ++ map lacking_head lacking

-- what the lines lack or have wrong, at most 20 faults with the refused lines first, and what is warned of beside these; a line says each
-- fault, and behind them one each warning
pub record IsRefusalOf (lines : List Said) (r : Refusal) : Type 0 where
  pub faults : AreFaults lines r.faults.items
  pub lacking : r.lacking.items ≡ take (20 - length r.faults.items) (lacking_of r.faults.items lines)
  pub warnings : AreWarningsBeside r.faults.items lines r.warnings
  pub said : (own : List ℕ) × AreLines (heads_of r.faults.items r.lacking.items) own × (r.said.items ≡ own ++ r.warnings.said.items)

-- some line is refused, or lacks
abbrev pub names_fault : Refusal → Bool
names_fault r = not (length r.faults.items == 0 && length r.lacking.items == 0)

-- no line is refused, and none lacks
abbrev pub IsFaultless : List Said → Type 0
IsFaultless lines = AreFaults lines [] × (lacking_of [] lines ≡ [])
