-- Changes of rows by this node (HAProxy Configuration Manual, stick-table `store`; the values at which counts stop are
-- the profile's choice).
use Rattle.std.specs.Prelude.{ℕ, ◌+◌, ◌-◌, ◌^◌, Bool, false, not, ◌&&◌, List, map, filter, Option, Some, None, if◌then◌else◌}
use Rattle.std.specs.List.{zip}
use Rattle.table_types.specs.declared.data_type.DataType.{DataType}
use Rattle.table_types.specs.declared.data_type.Shape.{Shape}
use Rattle.table_types.specs.declared.data_type.Shape.TheVariants as shapes
use Rattle.table_types.specs.declared.row.Cell.{Cell}
use Rattle.table_types.specs.declared.row.Cell.TheVariants as cells
use Rattle.table_types.specs.declared.change.Change.{Change}
use Rattle.table_types.specs.declared.change.Change.TheVariants as changes
use Rattle.table_types.specs.DataTypes.{shape_of, is_rate, is_same_type}
use Rattle.table_types.specs.Tables.{Definition, stores}
use Rattle.table_types.specs.Updates.{is_name_type, stores_name, may_be_named}
use Rattle.table_types.specs.Rows.{StoredRow, smaller, end_of}
use Rattle.table_types.specs.Rotation.{turned}

-- neither a rate nor the server's name
abbrev pub is_count : DataType → Bool
is_count t = not (is_rate t) && not (is_name_type t)

-- whether a table's rows can be changed this way: a count or a rate that the table stores, or the server's name
abbrev pub change_fits : Definition → Change → Bool
change_fits d (changes.Add t n) = is_count t && stores t d.types
change_fits d (changes.Take t n) = is_count t && stores t d.types
change_fits d (changes.Put t n) = is_count t && stores t d.types
change_fits d (changes.AddRate t n) = is_rate t && stores t d.types
change_fits d (changes.SetName name) = stores_name d && may_be_named d name

-- the greatest count of a shape
abbrev pub most : Shape → ℕ
most shapes.LongCount = 2 ^ 64 - 1
most shape = 2 ^ 32 - 1

-- a count of a data type after a change: it stops at its greatest value and at 0
abbrev pub changed_count : Change → DataType → ℕ → ℕ
changed_count (changes.Add t n) type count = if is_same_type t type then smaller (count + n) (most (shape_of type)) else count
changed_count (changes.Take t n) type count = if is_same_type t type then count - n else count
changed_count (changes.Put t n) type count = if is_same_type t type then smaller n (most (shape_of type)) else count
changed_count change type count = count

-- a rate with its current count raised, at most to its greatest value
abbrev pub raised : ℕ → Cell → Cell
raised n (cells.Count count) = cells.Count count
raised n (cells.Rate start current previous) = cells.Rate start (smaller (current + n) (2 ^ 32 - 1)) previous

-- a rate of a data type after a change: it is rotated before its count is raised
abbrev pub changed_rate : ℕ → Change → DataType × Option ℕ → Cell → Cell
changed_rate now (changes.AddRate t n) type rate = if is_same_type t type.0 then raised n (turned now type.1 rate) else rate
changed_rate now change type rate = rate

-- a cell of a data type after a change
abbrev pub changed_cell : ℕ → Change → DataType × Option ℕ → Cell → Cell
changed_cell now change type (cells.Count count) = cells.Count (changed_count change type.0 count)
changed_cell now change type (cells.Rate start current previous) = changed_rate now change type (cells.Rate start current previous)

-- the data types for which a row has a cell: all but the server's name
abbrev pub cell_types : List (DataType × Option ℕ) → List (DataType × Option ℕ)
cell_types types = filter (λ t. not (is_name_type t.0)) types

-- the cells of a row after a change
abbrev pub changed_cells : ℕ → Change → List (DataType × Option ℕ) → List Cell → List Cell
changed_cells now change types row = map (λ e. changed_cell now change e.0 e.1) (zip (cell_types types) row)

-- the name of a row after a change
abbrev pub changed_name : Change → Option (List ℕ) → Option (List ℕ)
changed_name (changes.SetName name) before = name
changed_name change before = before

-- the cells of a new row: counts of 0, and rates that begin at the moment
abbrev pub begun_cell : ℕ → Shape → Cell
begun_cell now shapes.Rate = cells.Rate now 0 0
begun_cell now shape = cells.Count 0

abbrev pub begun_cells : ℕ → List (DataType × Option ℕ) → List Cell
begun_cells now types = map (λ t. begun_cell now (shape_of t.0)) (cell_types types)

-- the cells and the name before the change: those of the row that lives, or those of a new one
abbrev pub cells_before : ℕ → Definition → Option StoredRow → List Cell
cells_before now d (Some row) = row.cells
cells_before now d None = begun_cells now d.types

abbrev pub name_before : Option StoredRow → Option (List ℕ)
name_before (Some row) = row.name
name_before None = None

-- the row after a change, with a number, made of the row that lives at the key or of a new one: it is this node's own,
-- and its life begins anew
abbrev pub tracked : Definition → ℕ → ℕ → Change → Option StoredRow → StoredRow
tracked d now number change live = record { number = number; ends = end_of now d.expire None; cells = changed_cells now change d.types (cells_before now d live); name = changed_name change (name_before live); learned = false }
