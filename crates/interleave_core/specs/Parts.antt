-- What the parts of a world stand for (profile).
use Rattle.std.specs.Prelude.{◌≡◌, ◌<◌, ◌+◌, ℕ, List, length, get_or, map, set, take, Some}
use Rattle.table_cell.specs.Histories.{CellState}
use Rattle.interleave_core.specs.declared.connection.Connection.{Connection}
use Rattle.interleave_core.specs.declared.parts.Parts.{Parts}
use Rattle.interleave_core.specs.Worlds.{ConnectionState, WorldState, cell_at, with_cell}

-- the first `applied` of the updates taught are those that the learner has put
abbrev pub connection_of : Connection → ConnectionState
connection_of c =
    record { version = c.version; known = c.known; copied = c.copied.items; taught = c.taught.items; applied = take c.applied c.taught.items; to_learner = c.to_learner; to_teacher = c.to_teacher; unread = c.unread; learner = c.learner }

abbrev pub connections_of : List Connection → List ConnectionState
connections_of cs = map connection_of cs

abbrev pub world_of : Parts → WorldState
world_of p = record { cells = p.cells.items; connections = connections_of p.connections.items }

-- the first table with the id `table` stands at `index`
pub record IsCellAt (table : ℕ) (cells : List CellState) (index : ℕ) : Type 0 where
  pub below : index < length cells
  pub here : (other : CellState) → cell_at table cells ≡ Some (get_or cells index other)
  pub changed : (new : CellState) → set cells index new ≡ with_cell table new cells

-- the connection of the session stands at `index`
pub record IsConnectionAt (session : ℕ) (cs : List Connection) (index : ℕ) : Type 0 where
  pub below : index < length cs
  pub number : session ≡ index + 1
