-- What was copied for a session since its connection was new (profile).
use Rattle.std.specs.Prelude.{◌≡◌, ◌++◌, ℕ, List, Some}
use Rattle.table_types.specs.declared.key.Key.{Key}
use Rattle.table_types.specs.declared.version.Version.{Version}
use Rattle.table_types.specs.Rows.{StoredRow}
use Rattle.learner.specs.Rows.{row_at, rows_at}
use Rattle.table_cell.specs.declared.events.CellEvent.{CellEvent}
use Rattle.table_cell.specs.declared.events.CellReply.{CellReply}
use Rattle.table_cell.specs.Histories.{CellState}
use Rattle.interleave_core.specs.Core.{IsOfCopied}
use Rattle.interleave_core.specs.Ties.{of_table}
use Rattle.interleave_core.specs.Worlds.{ConnectionState, WorldState, cell_at, connection_at, new_connection, roster_of}

-- the session's connection is new, as in a new world and after a Break
abbrev pub HasNewConnection : ℕ → WorldState → Type 0
HasNewConnection session w = (version : Version) × (connection_at session w.connections ≡ Some (new_connection version (roster_of w.cells)))

-- the table has the events that it had in the world `begun`, and then `later`
abbrev pub HasSince : WorldState → ℕ → CellState → List (CellEvent × CellReply) → Type 0
HasSince begun table c later = (b : CellState) × (cell_at table begun.cells ≡ Some b) × (c.history ≡ b.history ++ later)

-- Each row at the session's learner is what an update taught at some moment below 2^63: the last of that table and key that the
-- learner has put. A copy for the session had that update, and is one of the events that the table has had since the world
-- `begun`.
abbrev pub RowsAreCopiedSince : WorldState → ℕ → WorldState → Type 0
RowsAreCopiedSince begun session w =
    (table : ℕ) (s : ConnectionState) (c : CellState) (key : Key) (row : StoredRow) → connection_at session w.connections ≡ Some s → cell_at table w.cells ≡ Some c →
    row_at key (rows_at (roster_of w.cells) table s.learner.rows) ≡ Some row →
    (later : List (CellEvent × CellReply)) × HasSince begun table c later × IsOfCopied session later c.state.definition.expire (of_table table s.applied) key row
