-- What the parts of a cell stand for (profile).
use Rattle.std.specs.Prelude.{◌≡◌, ◌≢◌, ℕ, List, ◌++◌, length, Option, Some, None}
use Rattle.std.specs.Ordering.{nat_cmp}
use Rattle.std.specs.Map.{lookup}
use Rattle.std.specs.BTreeMap.{is_at}
use Rattle.table_types.specs.declared.update.Update.{Update}
use Rattle.table_cell.specs.declared.events.CellEvent.{CellEvent}
use Rattle.table_cell.specs.declared.events.CellReply.{CellReply}
use Rattle.table_cell.specs.Machine.{TableState, new_table}
use Rattle.table_cell.specs.Histories.{CellState, IsSoundCell, batch_in, held_batch, latest_batch, or_former}

-- What stands before the events that a table has: the state at which its history begins, the number of events dropped
-- before it, the events of the history that slides dropped, the copies that slides kept, by session, and how often the rows
-- got new numbers.
pub record OriginState : Type 0 where
  pub base : TableState
  pub dropped : ℕ
  pub past : List (CellEvent × CellReply)
  pub held : List (ℕ × (CellEvent × CellReply))
  pub renewals : ℕ

-- a table with its history, of which it has the events after the past ones
abbrev pub cell_of : OriginState → List (CellEvent × CellReply) → TableState → CellState
cell_of o kept s = record { base = o.base; dropped = o.dropped; history = o.past ++ kept; state = s; slid = length o.past; held = o.held; renewals = o.renewals }

-- the table is a new one whose next number is `first`, or isn't a new one if there is none
abbrev pub IsNewFrom : TableState → Option ℕ → Type 0
IsNewFrom s None = (first : ℕ) → s ≢ new_table s.definition s.size s.nopurge first
IsNewFrom s (Some first) = s ≡ new_table s.definition s.size s.nopurge first

-- the latest batch of `session` among copies that slides kept and events after them
abbrev pub latest_of : ℕ → List (ℕ × (CellEvent × CellReply)) → List (CellEvent × CellReply) → Option (List Update)
latest_of session held kept = or_former (held_batch session held) (latest_batch session kept)

-- `copy`, if there is one, is the session's latest copy
abbrev pub IsLatestCopy : List (ℕ × (CellEvent × CellReply)) → List (CellEvent × CellReply) → ℕ → Option (CellEvent × CellReply) → Type 0
IsLatestCopy held kept session None = latest_of session held kept ≡ None
IsLatestCopy held kept session (Some copy) = (us : List Update) × (latest_of session held kept ≡ Some us) × (batch_in copy.1 ≡ Some us)

-- each session's latest copy
abbrev pub AreLatestCopies : List (ℕ × (CellEvent × CellReply)) → List (ℕ × (CellEvent × CellReply)) → List (CellEvent × CellReply) → Type 0
AreLatestCopies copies held kept = (session : ℕ) → IsLatestCopy held kept session (lookup (is_at (nat_cmp session)) copies)

-- the invariant of the parts
pub record IsCell (o : OriginState) (kept : List (CellEvent × CellReply)) (s : TableState) (copies : List (ℕ × (CellEvent × CellReply))) : Type 0 where
  pub sound : IsSoundCell (cell_of o kept s)
  pub latest : AreLatestCopies copies o.held kept
