-- What a stock holds: the rows of a table by key, and the next number to assign.
use Rattle.std.specs.Prelude.{◌≡◌, ◌≤◌, ◌^◌, ℕ, Bool, ◌||◌, not, MatchBool, List, is_some, take, Option}
use Rattle.std.specs.List.Sorted.{IsStrictlySortedBy}
use Rattle.std.specs.Map.{keys_of}
use Rattle.table_types.specs.declared.key.Key.{Key}
use Rattle.table_types.specs.Keys.{key_cmp}
use Rattle.table_types.specs.Rows.{StoredRow}
use Rattle.table_rows.specs.Rows.{IsFirstToEnd, row_at, rows_after}
use Rattle.table_stock.specs.NumberedRows.{KeysDiffer, NumbersRise, without}

-- the rows by key, in ascending order of number, and the next number to assign
pub record Stocked : Type 0 where
  pub rows : List (Key × StoredRow)
  pub next : ℕ

-- the numbers of the rows ascend below `next`, and no two rows have the same key
pub record IsStock (s : Stocked) : Type 0 where
  pub numbers : NumbersRise 1 s.next s.rows
  pub keys : KeysDiffer s.rows
  pub most : s.next ≤ 2 ^ 32

abbrev pub stocked : ℕ → List (Key × StoredRow) → Stocked
stocked next rows = record { rows = rows; next = next }

-- the rows that remain when a row of `key` is stored: all of them if the key already has a row, or if there is room for one
-- more, and otherwise all but the first to end
abbrev pub LeftFor : Key → Bool → List (Key × StoredRow) → List (Key × StoredRow) → Type 0
LeftFor key full rows rest =
    MatchBool (is_some (row_at key rows) || not full) (rest ≡ rows) ((first : Key) × IsFirstToEnd rows first × (rest ≡ without first rows))

-- the same rows in ascending order of key
abbrev pub AreInRisingKey : List (Key × StoredRow) → List (Key × StoredRow) → Type 0
AreInRisingKey rows list = IsStrictlySortedBy key_cmp (keys_of list) × ((key : Key) → row_at key list ≡ row_at key rows)

-- the first of the rows, at most `most`, whose keys follow `after`, or of all rows, in ascending order of key
abbrev pub AreNextInRisingKey : Option Key → ℕ → List (Key × StoredRow) → List (Key × StoredRow) → Type 0
AreNextInRisingKey after most rows list = (all : List (Key × StoredRow)) × AreInRisingKey rows all × (list ≡ take most (rows_after after all))
