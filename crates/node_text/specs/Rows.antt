-- How rows are printed (profile).
use Rattle.std.specs.Prelude.{◌++◌, ℕ, Bool, true, false, List, [], ◌∷◌, codes, flat_map}
use Rattle.std.specs.Fmt.{decimal}
use Rattle.table_types.specs.declared.key.Key.{Key}
use Rattle.table_types.specs.Rows.{StoredRow}
use Rattle.table_types.specs.Tables.{Definition}
use Rattle.table_types.specs.Updates.{stores_name}
use Rattle.node_text.specs.Keys.{key_text}
use Rattle.node_text.specs.Names.{stored_text}
use Rattle.node_text.specs.Numbers.{number_or_dash}
use Rattle.node_text.specs.Values.{cell_text}

-- a row of this table: its end, its key, its values, and its name if the table stores one
abbrev pub row_text : Definition → Key × StoredRow → List ℕ
row_text table entry =
    number_or_dash entry.1.ends ++ (32 ∷ (key_text entry.0
    ++ (flat_map cell_text entry.1.cells ++ stored_text (stores_name table) entry.1.name)))

-- the line of a row of this table
abbrev pub row_line : Definition → Key × StoredRow → List ℕ
row_line table entry = codes "row " ++ (decimal table.id ++ (32 ∷ (row_text table entry ++ 10 ∷ [])))

-- whether a row is this node's own or was learned, after a space
abbrev pub kind_text : Bool → List ℕ
kind_text true = codes " learned"
kind_text false = codes " local"

-- a row of this table with its number and its origin
abbrev pub stored_row_text : Definition → Key × StoredRow → List ℕ
stored_row_text table entry = decimal entry.1.number ++ (32 ∷ (row_text table entry ++ kind_text entry.1.learned))
