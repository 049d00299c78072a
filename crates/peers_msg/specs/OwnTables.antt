-- Which of the tables received are a roster's own (profile).
use Rattle.std.specs.Prelude.{Bool, false, List, filter, Option, Some, None, if◌then◌else◌}
use Rattle.table_types.specs.Tables.{Definition}
use Rattle.table_types.specs.Rosters.{table_at}
use Rattle.table_types.specs.Shapes.{is_same_definition}
use Rattle.peers_msg.specs.Received.{Received, selected_table}

abbrev pub is_found : Option Definition → Definition → Bool
is_found None received = false
is_found (Some own) received = is_same_definition own received

-- a table received is the roster's own: the roster has the very same definition at its id
abbrev pub is_own : List Definition → Definition → Bool
is_own roster received = is_found (table_at roster received.id) received

abbrev pub is_own_one : List Definition → Option Definition → Bool
is_own_one roster None = false
is_own_one roster (Some received) = is_own roster received

-- the part that belongs to a roster's own tables: these tables, and the selected id if it is one of theirs
abbrev pub own_part : List Definition → Received → Received
own_part roster h = record {
  tables = filter (is_own roster) h.tables;
  selected = if is_own_one roster (selected_table h) then h.selected else None;
}
