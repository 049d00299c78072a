-- Where a key stands in a list of rows in ascending order of key.
use Rattle.std.specs.Prelude.{◌≡◌, ◌<◌, ◌≤◌, ℕ, List, length, take, drop, IfSome, slice_get}
use Rattle.std.specs.List.{AllByRecursion}
use Rattle.std.specs.declared.cmp.Ordering.TheVariants.{Less, Equal, Greater}
use Rattle.table_types.specs.declared.key.Key.{Key}
use Rattle.table_types.specs.Keys.{key_cmp}
use Rattle.table_types.specs.Rows.{StoredRow}

-- the key is above all of these
abbrev pub IsPast : Key → List (Key × StoredRow) → Type 0
IsPast key es = AllByRecursion (λ e. key_cmp key e.0 ≡ Greater) es

-- and below the first of these, if there is one
abbrev pub IsBefore : Key → List (Key × StoredRow) → Type 0
IsBefore key es = IfSome (slice_get es 0) (λ e. key_cmp key e.0 ≡ Less)

-- the key stands at index `i`
abbrev pub IsThere : Key → List (Key × StoredRow) → ℕ → Type 0
IsThere key es i = (i < length es) × IsPast key (take i es) × IfSome (slice_get es i) (λ e. key_cmp key e.0 ≡ Equal)

-- the key would stand at index `i`
abbrev pub IsGap : Key → List (Key × StoredRow) → ℕ → Type 0
IsGap key es i = (i ≤ length es) × IsPast key (take i es) × IsBefore key (drop i es)
