-- The events that slides dropped.
use Rattle.std.specs.Prelude.{List, [], ◌++◌}
use Rattle.table_cell.specs.declared.events.CellEvent.{CellEvent}
use Rattle.table_cell.specs.declared.events.CellReply.{CellReply}
use Rattle.table_cell.specs.declared.past.Past.{Past}
use Rattle.table_cell.specs.declared.past.Past.TheVariants.{Nothing, After'}

-- all of them with their replies, the first first
abbrev pub all_of : Past → List (CellEvent × CellReply)
all_of Nothing = []
all_of (After' marker before events) = all_of before ++ events.items
