-- The row that an update teaches.
use Rattle.std.specs.Prelude.{◌≡◌, ◌⊎◌, ℕ, List, [], ◌∷◌, Option, Some, None}
use Rattle.table_types.specs.declared.update.Update.{Update}
use Rattle.table_types.specs.Tables.{Definition}
use Rattle.table_types.specs.Rosters.{table_at}
use Rattle.table_types.specs.Rows.{row_of}
use Rattle.learner.specs.declared.keeper.NewRow.{NewRow}
use Rattle.learner.specs.Rows.{index_of}

-- the index of the update's table, its key, and the row; none if no table has its id
abbrev pub IsRowOf : ℕ → List Definition → Update → Option NewRow → Type 0
IsRowOf now tables u None = (table_at tables u.table ≡ None) ⊎ (index_of tables u.table ≡ None)
IsRowOf now tables u (Some new) =
    (index_of tables u.table ≡ Some new.index)
    × (d : Definition) × (table_at tables u.table ≡ Some d)
    × (new.key ≡ u.key)
    × (new.row ≡ row_of now d.expire u)

-- the same for what a message gives, one update or none
abbrev pub AreRowsOf : ℕ → List Definition → List Update → Option NewRow → Type 0
AreRowsOf now tables [] new = new ≡ None
AreRowsOf now tables (u ∷ []) new = IsRowOf now tables u new
AreRowsOf now tables us new = ⊥
