-- What a script says (profile).
use Rattle.std.specs.Prelude.{◌≤◌, ◌+◌, ◌==◌, ℕ, List, [], ◌∷◌, IfSome, if◌then◌else◌}
use Rattle.std.specs.List.{AllByRecursion}
use Rattle.node_text.specs.Calls.{IsCall}
use Rattle.node_text.specs.ScriptTables.{IsScriptTable}
use Rattle.node_text.specs.declared.scripts.Script.{Script}

-- the number of lines of a text; LF is 10, and the last line may lack it
abbrev pub line_count : List ℕ → ℕ
line_count [] = 0
line_count (byte ∷ []) = 1
line_count (byte ∷ next ∷ rest) = (if byte == 10 then 1 else 0) + line_count (next ∷ rest)

-- the number of a line, of `count` lines
abbrev pub IsLineOf : ℕ → ℕ → Type 0
IsLineOf count number = (1 ≤ number) × (number ≤ count)

-- the table's settings and the calls are in their ranges, and each number of a line is that of one of `count` lines
pub record IsScript (count : ℕ) (s : Script) : Type 0 where
  pub table : IsScriptTable s.table
  pub calls : AllByRecursion (λ call. IsLineOf count call.0 × IsCall call.1) s.calls.items
  pub refused : IfSome s.refused (IsLineOf count)
