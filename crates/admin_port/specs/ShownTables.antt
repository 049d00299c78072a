-- Tables and their rows as HAProxy's `show table` prints them.
use Rattle.std.specs.Prelude.{◌++◌, ◌-◌, ℕ, List, [], ◌∷◌, Option, Some, None, codes, flat_map, if◌then◌else◌}
use Rattle.std.specs.Fmt.{decimal}
use Rattle.table_types.specs.declared.data_type.DataType.{DataType}
use Rattle.table_types.specs.declared.key.Key.{Key}
use Rattle.table_types.specs.declared.key.KeyKind.{KeyKind}
use Rattle.table_types.specs.declared.key.KeyKind.TheVariants as kinds
use Rattle.table_types.specs.declared.row.Cell.{Cell}
use Rattle.table_types.specs.declared.row.Cell.TheVariants as cells
use Rattle.table_types.specs.DataTypes.{name_of}
use Rattle.table_types.specs.Rows.{StoredRow}
use Rattle.table_types.specs.Tables.{Definition}
use Rattle.table_types.specs.Updates.{is_name_type}
use Rattle.table_rows.specs.Rows.{is_live}
use Rattle.admin_port.specs.ShownKeys.{shown_byte, shown_key}
use Rattle.admin_port.specs.ShownRates.{shown_rate}
use Rattle.admin_port.specs.TableNames.{shown_name}

-- ---- headers

abbrev pub shown_kind : KeyKind → List ℕ
shown_kind kinds.Integer = codes "integer"
shown_kind kinds.Ip4 = codes "ip"
shown_kind kinds.Ip6 = codes "ipv6"
shown_kind kinds.String = codes "string"
shown_kind kinds.Binary = codes "binary"

-- the header of a table, with the rows that it may store and those that it stores
unfoldable pub shown_header : Option (List ℕ) → Definition → ℕ → ℕ → List ℕ
shown_header section table size used =
    codes "# table: " ++ (shown_name section table.name ++ (codes ", type: " ++ (shown_kind table.kind
    ++ (codes ", size:" ++ (decimal size ++ (codes ", used:" ++ (decimal used ++ 10 ∷ [])))))))

-- ---- rows

-- a period in brackets
abbrev pub period_text : Option ℕ → List ℕ
period_text None = []
period_text (Some period) = codes "(" ++ (decimal period ++ codes ")")

-- the value of a cell at a moment: that of a rate with a period, or a count
abbrev pub value_at : ℕ → Option ℕ → Cell → ℕ
value_at now (Some period) cell = shown_rate period now cell
value_at now None (cells.Count count) = count
value_at now None (cells.Rate start current previous) = current

-- the value of a data type, after a space
unfoldable pub shown_value : ℕ → DataType × Option ℕ → Cell → List ℕ
shown_value now t cell = 32 ∷ (name_of t.0 ++ (period_text t.1 ++ (61 ∷ decimal (value_at now t.1 cell))))

-- the name, or `-` for none
abbrev pub name_shown : Option (List ℕ) → List ℕ
name_shown None = codes "-"
name_shown (Some name) = flat_map shown_byte name

-- the name of the server, after a space
unfoldable pub server_text : DataType → Option (List ℕ) → List ℕ
server_text t name = 32 ∷ (name_of t ++ (61 ∷ name_shown name))

-- the values of a row, one cell for each data type except the server's name
abbrev pub shown_values : ℕ → Option (List ℕ) → List (DataType × Option ℕ) → List Cell → List ℕ
shown_values now name [] cs = []
shown_values now name (t ∷ ts) [] = (if is_name_type t.0 then server_text t.0 name else []) ++ shown_values now name ts []
shown_values now name (t ∷ ts) (c ∷ cs) =
    if is_name_type t.0 then server_text t.0 name ++ shown_values now name ts (c ∷ cs)
    else shown_value now t c ++ shown_values now name ts cs

-- the milliseconds until the end, or 0 for none
abbrev pub left_at : ℕ → Option ℕ → ℕ
left_at now None = 0
left_at now (Some end) = end - now

-- the line of a row at a moment
unfoldable pub shown_row : Definition → ℕ → Key × StoredRow → List ℕ
shown_row table now e =
    codes "0x0: key=" ++ (shown_key e.0 ++ (codes " use=0 exp=" ++ (decimal (left_at now e.1.ends)
    ++ (shown_values now e.1.name table.types e.1.cells ++ 10 ∷ []))))

-- the line of a row that is live at a moment
abbrev pub live_line : Definition → ℕ → Key × StoredRow → List ℕ
live_line table now e = if is_live now e.1 then shown_row table now e else []
