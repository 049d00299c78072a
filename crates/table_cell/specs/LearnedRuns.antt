-- Runs of rows that pushes skip (profile).
use Rattle.std.specs.Prelude.{◌≡◌, ◌<◌, ◌≤◌, ℕ, Bool, true, not, ◌||◌, List}
use Rattle.std.specs.List.{AllByRecursion}
use Rattle.table_types.specs.declared.key.Key.{Key}
use Rattle.table_types.specs.Rows.{StoredRow}
use Rattle.table_rows.specs.Rows.{is_live}

-- no push at `since` or later includes the row: it is learned, or not live then
abbrev pub is_passed : ℕ → StoredRow → Bool
is_passed since row = row.learned || not (is_live since row)

-- pushes pass the row if its number is above `after` and at most `last`
abbrev pub IsPassedWithin : ℕ → ℕ → ℕ → Key × StoredRow → Type 0
IsPassedWithin after last since e = after < e.1.number → e.1.number ≤ last → is_passed since e.1 ≡ true

-- pushes at `since` or later pass every row whose number is above `after` and at most `last`, a number already assigned
pub record IsLearnedRun (after last next since : ℕ) (rows : List (Key × StoredRow)) : Type 0 where
  pub given : last < next
  pub passed : AllByRecursion (IsPassedWithin after last since) rows
