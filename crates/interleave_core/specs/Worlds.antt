-- The world (profile): tables, the sessions that teach from them, and what is on its way between a teacher and its
-- learners.
use Rattle.std.specs.Prelude.{ℕ, zero, suc, Bool, not, ◌==◌, List, [], ◌∷◌, ◌++◌, filter, get_or, length, map, set, slice_get, Option, Some, None, if◌then◌else◌}
use Rattle.table_types.specs.declared.update.Update.{Update}
use Rattle.table_types.specs.declared.version.Version.{Version}
use Rattle.table_types.specs.declared.version.Version.TheVariants as versions
use Rattle.table_types.specs.Tables.{Definition}
use Rattle.known_state.specs.Known.{KnownState, fresh_of}
use Rattle.learner.specs.Learning.{Learning, unlearned}
use Rattle.table_cell.specs.declared.events.CellEvent.TheVariants as events
use Rattle.table_cell.specs.declared.events.CellReply.TheVariants as replies
use Rattle.table_cell.specs.Histories.{CellState}
use Rattle.table_cell.specs.Machine.{no_progress}
use Rattle.interleave_core.specs.declared.way.Way.{Way}
use Rattle.interleave_core.specs.declared.way.Way.TheVariants as ways

-- What belongs to a session: its version; what its teacher knows of the learner once all that is on its way has arrived;
-- the batches that were copied and not taught yet, the oldest first; the updates taught since the connection began, and
-- those of them that the learner has put; the bytes on their way to the learner, and to the teacher; the bytes that
-- arrived at the teacher and aren't a whole message yet; and the learner.
pub record ConnectionState : Type 0 where
  pub version : Version
  pub known : KnownState
  pub copied : List (List Update)
  pub taught : List Update
  pub applied : List Update
  pub to_learner : List ℕ
  pub to_teacher : List ℕ
  pub unread : List ℕ
  pub learner : Learning

-- the tables, and the connections of the sessions 1, 2 and so on
pub record WorldState : Type 0 where
  pub cells : List CellState
  pub connections : List ConnectionState

-- the definitions of the tables
abbrev pub roster_of : List CellState → List Definition
roster_of cells = map (λ c. c.state.definition) cells

-- nothing was copied, taught or sent, and the learner has received nothing
abbrev pub new_connection : Version → List Definition → ConnectionState
new_connection version roster =
    record { version = version; known = fresh_of roster; copied = []; taught = []; applied = []; to_learner = []; to_teacher = []; unread = []; learner = unlearned roster }

-- ---- tables by id

abbrev pub is_table : ℕ → CellState → Bool
is_table table c = c.state.definition.id == table

-- the table with the id `table`
abbrev pub cell_at : ℕ → List CellState → Option CellState
cell_at table [] = None
cell_at table (c ∷ cs) = if is_table table c then Some c else cell_at table cs

-- the tables with `new` in place of the one with the id `table`
abbrev pub with_cell : ℕ → CellState → List CellState → List CellState
with_cell table new [] = []
with_cell table new (c ∷ cs) = if is_table table c then new ∷ cs else c ∷ with_cell table new cs

-- ---- connections by session, from 1

abbrev pub connection_at : ℕ → List ConnectionState → Option ConnectionState
connection_at zero connections = None
connection_at (suc before) connections = slice_get connections before

abbrev pub with_connection : ℕ → ConnectionState → List ConnectionState → List ConnectionState
with_connection zero new connections = connections
with_connection (suc before) new connections = set connections before new

-- the bytes on their way in a direction
abbrev pub pipe_of : Way → ConnectionState → List ℕ
pipe_of ways.ToLearner s = s.to_learner
pipe_of ways.ToTeacher s = s.to_teacher

-- ---- the sessions of a table

-- the table after the session is opened in it, with its version
abbrev pub with_session : ℕ → Version → CellState → CellState
with_session session version c =
    record c { history = c.history ++ (events.Open session version, replies.Open) ∷ []; state = record c.state { sessions = c.state.sessions ++ (session, no_progress version c.state.next) ∷ [] } }

-- the table after the session is closed in it
abbrev pub without_session : ℕ → CellState → CellState
without_session session c =
    record c { history = c.history ++ (events.Close session, replies.Close) ∷ []; state = record c.state { sessions = filter (λ entry. not (entry.0 == session)) c.state.sessions } }

-- the table after the session is closed in it and opened again
abbrev pub with_session_anew : ℕ → Version → CellState → CellState
with_session_anew session version c = with_session session version (without_session session c)

-- the version of the session after the first `before`, if these are the versions of the sessions 1, 2 and so on
abbrev pub version_after : ℕ → List Version → Version
version_after before vs = get_or vs before versions.V21

-- the table after the sessions 1 to `count` are opened in it, each with its version
abbrev pub with_sessions : ℕ → List Version → CellState → CellState
with_sessions zero vs c = c
with_sessions (suc before) vs c = with_session (suc before) (version_after before vs) (with_sessions before vs c)

-- ---- a new world

-- there is a session for each version, which is open in each table; nothing is on its way, and no learner has received anything
abbrev pub new_world : List CellState → List Version → WorldState
new_world cells vs =
    record { cells = map (with_sessions (length vs) vs) cells; connections = map (λ version. new_connection version (roster_of cells)) vs }
