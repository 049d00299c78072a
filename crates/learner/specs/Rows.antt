-- The rows of the local tables by their keys, and how an update is put among them (profile).
use Rattle.std.specs.Prelude.{ℕ, ◌≢◌, ◌⊎◌, ◌+◌, ◌==◌, List, [], ◌∷◌, fold, Option, Some, None, option_map, if◌then◌else◌}
use Rattle.std.specs.List.{AllByRecursion}
use Rattle.std.specs.Ordering.{is_eq}
use Rattle.std.specs.Map.{lookup}
use Rattle.std.specs.BTreeMap.{insert_entry}
use Rattle.table_types.specs.declared.key.Key.{Key}
use Rattle.table_types.specs.Keys.{key_cmp}
use Rattle.table_types.specs.declared.update.Update.{Update}
use Rattle.table_types.specs.Tables.{Definition}
use Rattle.table_types.specs.Rows.{StoredRow, row_of}

-- the row of a key among a table's rows
abbrev pub row_at : Key → List (Key × StoredRow) → Option StoredRow
row_at key rows = lookup (λ other. is_eq (key_cmp key other)) rows

-- the rows of the table with an id, or none if there is no such table; the rows are in the order of the tables
abbrev pub rows_at : List Definition → ℕ → List (List (Key × StoredRow)) → List (Key × StoredRow)
rows_at (d ∷ ds) id (rows ∷ others) = if d.id == id then rows else rows_at ds id others
rows_at ds id tables = []

-- an update of the table `d` replaces the row of its key, or adds a new one
abbrev pub put_row : ℕ → Definition → Update → List (Key × StoredRow) → List (Key × StoredRow)
put_row now d u rows = insert_entry key_cmp rows u.key (row_of now d.expire u)

-- an update is put among the rows of its table
abbrev pub put : ℕ → List Definition → List (List (Key × StoredRow)) → Update → List (List (Key × StoredRow))
put now (d ∷ ds) (rows ∷ others) u = if d.id == u.table then put_row now d u rows ∷ others else rows ∷ put now ds others u
put now ds tables u = tables

-- updates are put one after another
abbrev pub put_all : ℕ → List Definition → List Update → List (List (Key × StoredRow)) → List (List (Key × StoredRow))
put_all now roster us tables = fold (put now roster) tables us

-- none of the updates has the table `id` and the key `key`
abbrev pub AreOfOthers : ℕ → Key → List Update → Type 0
AreOfOthers id key us = AllByRecursion (λ u. (u.table ≢ id) ⊎ (u.key ≢ key)) us

-- the index of the table with the id `id`
abbrev pub index_of : List Definition → ℕ → Option ℕ
index_of [] id = None
index_of (d ∷ ds) id = if d.id == id then Some 0 else option_map (λ index. index + 1) (index_of ds id)
