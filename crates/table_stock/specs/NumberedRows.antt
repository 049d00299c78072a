-- Rows by key in ascending order of number.
use Rattle.std.specs.Prelude.{◌≡◌, ◌≤◌, ℕ, ◌+◌, not, filter, List, [], ◌∷◌, None}
use Rattle.std.specs.Ordering.{is_eq}
use Rattle.table_types.specs.declared.key.Key.{Key}
use Rattle.table_types.specs.Keys.{key_cmp}
use Rattle.table_types.specs.Rows.{StoredRow}
use Rattle.table_rows.specs.Rows.{row_at}

-- the rows without the row of a key
abbrev pub without : Key → List (Key × StoredRow) → List (Key × StoredRow)
without key rows = filter (λ e. not (is_eq (key_cmp key e.0))) rows

-- the numbers ascend from `least`, below `next`
abbrev pub NumbersRise : ℕ → ℕ → List (Key × StoredRow) → Type 0
NumbersRise least next [] = least ≤ next
NumbersRise least next (e ∷ es) = (least ≤ e.1.number) × NumbersRise (e.1.number + 1) next es

-- no two rows have the same key
abbrev pub KeysDiffer : List (Key × StoredRow) → Type 0
KeysDiffer [] = Unit {0}
KeysDiffer (e ∷ es) = (row_at e.0 es ≡ None) × KeysDiffer es

-- the rows in their order, with the numbers from `first` on
abbrev pub numbered_from : ℕ → List (Key × StoredRow) → List (Key × StoredRow)
numbered_from first [] = []
numbered_from first (e ∷ es) = (e.0, record e.1 { number = first }) ∷ numbered_from (first + 1) es
