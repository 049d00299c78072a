-- Names of tables, as requests and answers have them (HAProxy, `show table`: a table of a peers section has the section's name
-- before its own, which begins with `/`).
use Rattle.std.specs.Prelude.{◌++◌, ◌==◌, ◌&&◌, ℕ, Bool, false, List, [], ◌∷◌, Option, Some, None, drop, if◌then◌else◌, length, take}
use Rattle.table_types.specs.Rosters.{is_same_name}
use Rattle.table_types.specs.Tables.{Definition}

-- the first byte is `/` (47)
abbrev pub is_of_section : List ℕ → Bool
is_of_section [] = false
is_of_section (byte ∷ _) = byte == 47

-- what stands before the name of a table: the section's name if the table is one of its own
abbrev pub shown_section : Option (List ℕ) → List ℕ → List ℕ
shown_section None name = []
shown_section (Some section) name = if is_of_section name then section else []

-- the name of a table as it is shown
abbrev pub shown_name : Option (List ℕ) → List ℕ → List ℕ
shown_name section name = shown_section section name ++ name

-- the word without the section's name, if that stands before the name of one of the section's own tables
abbrev pub wire_name : Option (List ℕ) → List ℕ → List ℕ
wire_name None word = word
wire_name (Some section) word =
    if is_same_name (take (length section) word) section && is_of_section (drop (length section) word) then drop (length section) word
    else word

-- the first table with this name on the wire
abbrev pub table_with_name : List ℕ → List Definition → Option Definition
table_with_name name [] = None
table_with_name name (table ∷ tables) = if is_same_name table.name name then Some table else table_with_name name tables

-- the first table, or else the next
abbrev pub or_table : Option Definition → Option Definition → Option Definition
or_table (Some table) next = Some table
or_table None next = next

-- the table that a word names: by its name on the wire, or as it is shown
abbrev pub table_named : Option (List ℕ) → List Definition → List ℕ → Option Definition
table_named section tables word = or_table (table_with_name word tables) (table_with_name (wire_name section word) tables)
