-- A row as an update (HAProxy, doc/peers-v2.0.txt, "Handshake" and "Update Messages"; that a row that never expires has a
-- life of 0, and that the periods of a rate rotate only in the update, are the profile's choices).
use Rattle.std.specs.Prelude.{ℕ, ◌-◌, List, map, Option, Some, None}
use Rattle.std.specs.List.{zip}
use Rattle.table_types.specs.declared.key.Key.{Key}
use Rattle.table_types.specs.declared.data_type.DataType.{DataType}
use Rattle.table_types.specs.declared.row.Cell.{Cell}
use Rattle.table_types.specs.declared.row.Cell.TheVariants as cells
use Rattle.table_types.specs.declared.update.Value.{Value}
use Rattle.table_types.specs.declared.update.Value.TheVariants as values
use Rattle.table_types.specs.declared.update.Update.{Update}
use Rattle.table_types.specs.declared.version.Version.{Version}
use Rattle.table_types.specs.declared.version.Version.TheVariants as versions
use Rattle.table_types.specs.Tables.{Definition}
use Rattle.table_types.specs.Rows.{StoredRow}
use Rattle.table_types.specs.Rotation.{turned}
use Rattle.table_types.specs.Changes.{cell_types}

-- the value of a cell: a count, or how long ago a rate's current period began, with its counts
abbrev pub value_of : ℕ → Cell → Value
value_of now (cells.Count count) = values.Count count
value_of now (cells.Rate start current previous) = values.Rate (now - start) current previous

-- the values of a row's cells, with the periods of its rates rotated
abbrev pub values_of : ℕ → List (DataType × Option ℕ) → List Cell → List Value
values_of now types row = map (λ e. value_of now (turned now e.0.1 e.1)) (zip (cell_types types) row)

-- the remaining life of a row, and 0 if it never expires
abbrev pub life_left : ℕ → Option ℕ → ℕ
life_left now None = 0
life_left now (Some end) = end - now

-- the life of an update: version 2.0 has none
abbrev pub life_of : Version → ℕ → Option ℕ → Option ℕ
life_of versions.V20 now ends = None
life_of versions.V21 now ends = Some (life_left now ends)

-- a row as an update for a session of a version
abbrev pub update_of : Version → Definition → ℕ → Key × StoredRow → Update
update_of version d now e =
    record { table = d.id; number = e.1.number; life = life_of version now e.1.ends; key = e.0; values = values_of now d.types e.1.cells; name = e.1.name }
