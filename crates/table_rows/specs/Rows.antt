-- The rows of a table by key, and which of them is the first to end (HAProxy Configuration Manual, stick-table `size`
-- and `expire`; that rows that end together are ordered by number is the profile's choice).
use Rattle.std.specs.Prelude.{◌≡◌, ◌⊎◌, ℕ, Bool, true, false, nat_lt, filter, List, Option, Some, None}
use Rattle.std.specs.List.{AllByRecursion}
use Rattle.std.specs.declared.cmp.Ordering.{Ordering}
use Rattle.std.specs.declared.cmp.Ordering.TheVariants.{Less, Equal, Greater}
use Rattle.std.specs.Ordering.{nat_cmp, ordering_then, is_gt, is_lt}
use Rattle.std.specs.Map.{lookup, remove_entry}
use Rattle.std.specs.BTreeMap.{is_at}
use Rattle.table_types.specs.declared.key.Key.{Key}
use Rattle.table_types.specs.Keys.{key_cmp}
use Rattle.table_types.specs.Rows.{StoredRow}

-- the row of a key
abbrev pub row_at : Key → List (Key × StoredRow) → Option StoredRow
row_at key rows = lookup (is_at (key_cmp key)) rows

-- the rows without the row of a key
abbrev pub rows_without : Key → List (Key × StoredRow) → List (Key × StoredRow)
rows_without key rows = remove_entry (is_at (key_cmp key)) rows

-- the key follows `after`; every key does if there is none
abbrev pub follows : Option Key → Key → Bool
follows None key = true
follows (Some after) key = is_lt (key_cmp after key)

-- the rows whose keys follow `after`
abbrev pub rows_after : Option Key → List (Key × StoredRow) → List (Key × StoredRow)
rows_after after rows = filter (λ e. follows after e.0) rows

-- an end is after `now`, and so is no end
abbrev pub goes_past : ℕ → Option ℕ → Bool
goes_past now None = true
goes_past now (Some end) = nat_lt now end

-- a row is live at `now` if it never expires, or ends after `now`
abbrev pub is_live : ℕ → StoredRow → Bool
is_live now row = goes_past now row.ends

-- a sooner end comes first, and no end comes last
abbrev pub ends_cmp : Option ℕ → Option ℕ → Ordering
ends_cmp (Some a) (Some b) = nat_cmp a b
ends_cmp (Some a) None = Less
ends_cmp None (Some b) = Greater
ends_cmp None None = Equal

-- the row that ends sooner comes first; of rows that end together, the one with the smaller number, and then the one
-- with the smaller key
abbrev pub end_cmp : Key × StoredRow → Key × StoredRow → Ordering
end_cmp a b = ordering_then (ends_cmp a.1.ends b.1.ends) (ordering_then (nat_cmp a.1.number b.1.number) (key_cmp a.0 b.0))

-- the first to end of two rows is one of them that doesn't come after the other; of a row alone it is that row
abbrev pub IsFirstOf : Option (Key × StoredRow) → Key × StoredRow → Key × StoredRow → Type 0
IsFirstOf None b e = e ≡ b
IsFirstOf (Some a) b e = ((e ≡ a) ⊎ (e ≡ b)) × (is_gt (end_cmp e a) ≡ false) × (is_gt (end_cmp e b) ≡ false)

-- the row of `key` is the first to end: no other comes before it
abbrev pub IsFirstToEnd : List (Key × StoredRow) → Key → Type 0
IsFirstToEnd rows key = (row : StoredRow) × (row_at key rows ≡ Some row) × AllByRecursion (λ e. is_gt (end_cmp (key, row) e) ≡ false) rows

-- each row is live at `now`
abbrev pub AreLive : ℕ → List (Key × StoredRow) → Type 0
AreLive now rows = AllByRecursion (λ e. is_live now e.1 ≡ true) rows
