-- What learners have of the tables of a world, and what tables take of learners (profile).
use Rattle.std.specs.Prelude.{◌≡◌, ◌≢◌, ◌⊎◌, ◌≤◌, ◌<◌, ◌^◌, ℕ, Bool, true, List, [], ◌∷◌, ◌++◌, filter_map, length, take, Some, None, Result, Ok, Err, if◌then◌else◌}
use Rattle.std.specs.List.{AllByRecursion}
use Rattle.table_types.specs.declared.copies.CopyKind.TheVariants as kinds
use Rattle.table_types.specs.declared.key.Key.{Key}
use Rattle.table_types.specs.declared.update.Update.{Update}
use Rattle.table_types.specs.Rows.{StoredRow, row_of}
use Rattle.table_types.specs.Tables.{Definition}
use Rattle.peers_msg.specs.declared.message.Message.{Message}
use Rattle.peers_msg.specs.Decoding.{AreRead}
use Rattle.peers_msg.specs.Received.{Received, nothing_received}
use Rattle.known_state.specs.Known.{known_of}
use Rattle.learner.specs.declared.fault.Fault.{Fault}
use Rattle.learner.specs.declared.fault.Fault.TheVariants as faults
use Rattle.learner.specs.Learning.{Learning, LearnerFeeds}
use Rattle.learner.specs.Rows.{put_all, row_at, rows_at}
use Rattle.table_cell.specs.declared.errors.AckError.TheVariants as unacknowledged
use Rattle.table_cell.specs.declared.errors.CopyError.TheVariants as uncopied
use Rattle.table_cell.specs.declared.events.CellEvent.{CellEvent}
use Rattle.table_cell.specs.declared.events.CellReply.{CellReply}
use Rattle.table_cell.specs.declared.progress.Progress.{Progress}
use Rattle.table_cell.specs.Machine.{ack_refusal, copy_refusal, live_row, progress_of}
use Rattle.table_cell.specs.Handing.{IsReached, numbers, resyncs_since}
use Rattle.table_cell.specs.Histories.{CellState, is_history_full}
use Rattle.interleave_core.specs.Moves.{ack_in, acked}
use Rattle.interleave_core.specs.Ties.{IsAmong, WasCopied, of_table}
use Rattle.interleave_core.specs.Worlds.{ConnectionState, WorldState, cell_at, connection_at, roster_of, with_cell}

-- the learner has a row in `table` with the key and the number of `e`
abbrev pub StandsAtLearner : List Definition → ℕ → ConnectionState → Key × StoredRow → Type 0
StandsAtLearner roster table s e = (row : StoredRow) × (row_at e.0 (rows_at roster table s.learner.rows) ≡ Some row) × (row.number ≡ e.1.number)

-- in a table with this expire, the row is what the last of these updates of that key taught at some moment below 2^63, and a copy
-- for the session, one of these events, had that update
abbrev pub IsOfCopied : ℕ → List (CellEvent × CellReply) → ℕ → List Update → Key → StoredRow → Type 0
IsOfCopied session history expire us key row =
    (before : List Update) × (u : Update) × (after : List Update) × (now : ℕ)
    × (us ≡ before ++ u ∷ after) × (u.key ≡ key) × AllByRecursion (λ later. later.key ≢ key) after
    × WasCopied session history u × (now < 2 ^ 63) × (row ≡ row_of now expire u)

-- made one after another, each of these acknowledgements is of a table, which refuses it only if its history is full
abbrev pub AreRefusedIfFull : ℕ → List (ℕ × ℕ) → List CellState → Type 0
AreRefusedIfFull session [] cells = Unit {0}
AreRefusedIfFull session (ack ∷ acks) cells =
    (c : CellState) × (cell_at ack.0 cells ≡ Some c)
    × (ack_refusal (is_history_full c) c.state session ack.1 ≡ (if is_history_full c then Some unacknowledged.HistoryFull else None))
    × ((e : CellState) → acked session ack.1 c ≡ Some e → AreRefusedIfFull session acks (with_cell ack.0 e cells))

-- What holds of a session of a world:
--   Its learner has the tables of the world.
--   A learner that is fed all that is on its way has no fault unless memory runs out. It then puts the updates that were taught
--   and not put yet among its rows, in order, leaves nothing unread, and is as the teacher knows it.
--   The session is open in each table. The number acknowledged there is 0 or that of an update that the learner has put, and
--   whatever was taught of the table and isn't put yet has a higher one.
--   The acknowledgements among the bytes that arrive at the teacher are refused only by a full history, so none is ahead.
--   Each row at the learner is what an update taught at some moment below 2^63: the last of that table and key that the learner
--   has put. A copy for the session had that update.
--   At a moment not before a table's latest, each live row stands at the learner under its number if that is at most the number
--   acknowledged, and the row isn't learned or all copies since the session was last opened were resyncs.
--   If all were, and another would find nothing, each live row stands there.
pub record IsCoreOf (w : WorldState) (session : ℕ) (s : ConnectionState) : Type 0 where
  pub roster : s.learner.intake.roster ≡ roster_of w.cells
  pub arrives : (now : ℕ) (answer : Result ℕ Fault) (l : Learning) → LearnerFeeds now s.learner s.to_learner answer l → answer ≢ Err faults.Memory →
      (us : List Update) × (answer ≡ Ok (length us)) × (s.taught ≡ s.applied ++ us) × (l.rows ≡ put_all now (roster_of w.cells) us s.learner.rows)
      × (l.intake.unread ≡ []) × (known_of (roster_of w.cells) l.intake.state ≡ s.known)
  pub acknowledged : (table : ℕ) (c : CellState) → cell_at table w.cells ≡ Some c →
      (p : Progress) × (progress_of session c.state ≡ Some p)
      × ((p.acknowledged ≡ 0) ⊎ IsAmong p.acknowledged (numbers (of_table table s.applied)))
      × (to_come : List Update) × (s.taught ≡ s.applied ++ to_come) × AllByRecursion (λ u. p.acknowledged < u.number) (of_table table to_come)
  pub granted : (count : ℕ) (ms : List Message) (received : Received) (left : List ℕ) → AreRead nothing_received (s.unread ++ take count s.to_teacher) ms received left →
      AreRefusedIfFull session (filter_map (ack_in (roster_of w.cells)) ms) w.cells
  pub rows : (table : ℕ) (c : CellState) (key : Key) (row : StoredRow) → cell_at table w.cells ≡ Some c →
      row_at key (rows_at (roster_of w.cells) table s.learner.rows) ≡ Some row → IsOfCopied session c.history c.state.definition.expire (of_table table s.applied) key row
  pub stand : (table now : ℕ) (c : CellState) → cell_at table w.cells ≡ Some c → c.state.latest ≤ now →
      (p : Progress) × (progress_of session c.state ≡ Some p)
      × AllByRecursion (λ e. IsReached (resyncs_since session c.history) p.acknowledged now e → StandsAtLearner (roster_of w.cells) table s e) c.state.rows
  pub resynced : (table limit now : ℕ) (full : Bool) (c : CellState) (key : Key) (row : StoredRow) → cell_at table w.cells ≡ Some c →
      1 ≤ limit → copy_refusal full c.state session kinds.Resync limit now ≡ Some uncopied.Nothing → resyncs_since session c.history ≡ true →
      live_row key now c.state ≡ Some row → StandsAtLearner (roster_of w.cells) table s (key, row)

-- the same of every session
abbrev pub IsCore : WorldState → Type 0
IsCore w = (session : ℕ) (s : ConnectionState) → connection_at session w.connections ≡ Some s → IsCoreOf w session s
