-- What a learner holds, and what it learns from the bytes that it is fed (profile).
use Rattle.std.specs.Prelude.{◌≡◌, ℕ, ◌+◌, true, false, List, [], ◌∷◌, ◌++◌, length, map, Option, Some, None, Result, Ok, Err}
use Rattle.table_types.specs.declared.key.Key.{Key}
use Rattle.table_types.specs.declared.update.Update.{Update}
use Rattle.table_types.specs.Tables.{Definition}
use Rattle.table_types.specs.Rosters.{roster_fault}
use Rattle.table_types.specs.Rows.{StoredRow}
use Rattle.peers_msg.specs.declared.message.Message.{Message}
use Rattle.peers_msg.specs.Reading.{message_at}
use Rattle.known_state.specs.State.{State}
use Rattle.known_state.specs.Known.{KnownState, AreOwn, known_of}
use Rattle.known_state.specs.LastNumbers.{AreRising}
use Rattle.learner.specs.declared.fault.Fault.{Fault}
use Rattle.learner.specs.declared.fault.Fault.TheVariants as faults
use Rattle.learner.specs.Intake.{Taking, Takes, Stops, begun, fed, shut}
use Rattle.learner.specs.Rows.{put_all}

-- what was taken of the stream, and the rows of each local table, in the order of the roster
pub record Learning : Type 0 where
  pub intake : Taking
  pub rows : List (List (Key × StoredRow))

-- nothing has been fed yet
abbrev pub unlearned : List Definition → Learning
unlearned roster = record { intake = begun roster; rows = map (λ _. []) roster }

-- bytes are fed
abbrev pub with_piece : Learning → List ℕ → Learning
with_piece l piece = record { intake = fed l.intake piece; rows = l.rows }

-- The message `m` is taken at the moment `now`, and the updates `us`, those of local tables that it carries, are put
-- among the rows.
abbrev pub Learns : ℕ → Learning → Message → List Update → Learning → Type 0
Learns now l m us e = Takes l.intake m us e.intake × (e.rows ≡ put_all now l.intake.roster us l.rows)

-- the messages are learned one after another, and the updates `us` are put
abbrev pub AreLearned : ℕ → Learning → List Message → List Update → Learning → Type 0
AreLearned now l [] us e = (us ≡ []) × (e ≡ l)
AreLearned now l (m ∷ ms) us e =
    (one : List Update)
    × (rest : List Update)
    × (mid : Learning)
    × (us ≡ one ++ rest)
    × Learns now l m one mid
    × AreLearned now mid ms rest e

-- no message is whole at the front, and there is no fault
abbrev pub IsWaiting : Taking → Type 0
IsWaiting t = (t.closed ≡ false) × (message_at t.state.received t.unread ≡ Ok None)

-- What learning one message does; the answer is how many rows were put. A fault changes no row, and memory that runs
-- out for a message changes nothing at all.
abbrev pub LearnsOne : ℕ → Learning → Result (Option ℕ) Fault → Learning → Type 0
LearnsOne now l (Ok None) e = IsWaiting l.intake × (e ≡ l)
LearnsOne now l (Ok (Some count)) e = (m : Message) × (us : List Update) × Learns now l m us e × (count ≡ length us)
LearnsOne now l (Err fault) e = Stops l.intake fault e.intake × (e.rows ≡ l.rows)

-- The whole messages are learned one after another, up to the first fault. The answer is how many rows were put.
abbrev pub LearnsAll : ℕ → Learning → Result ℕ Fault → Learning → Type 0
LearnsAll now l (Ok count) e =
    (ms : List Message)
    × (us : List Update)
    × AreLearned now l ms us e
    × IsWaiting e.intake
    × (count ≡ length us)
LearnsAll now l (Err fault) e =
    (ms : List Message)
    × (us : List Update)
    × (mid : Learning)
    × AreLearned now l ms us mid
    × Stops mid.intake fault e.intake
    × (e.rows ≡ mid.rows)

-- nothing more is learned, and no bytes are held
abbrev pub shut_off : Learning → Learning
shut_off l = record { intake = shut l.intake; rows = l.rows }

-- What feeding bytes at the moment `now` does: the messages that are then whole are learned, up to the first fault.
-- After a fault the learner is closed, and so it is if memory runs out for a message; a closed learner takes no bytes.
abbrev pub LearnerFeeds : ℕ → Learning → List ℕ → Result ℕ Fault → Learning → Type 0
LearnerFeeds now l piece (Err faults.Closed) e = (l.intake.closed ≡ true) × (e ≡ l)
LearnerFeeds now l piece (Err faults.Memory) e =
    (l.intake.closed ≡ false)
    × (left : Learning)
    × LearnsAll now (with_piece l piece) (Err faults.Memory) left
    × (e ≡ shut_off left)
LearnerFeeds now l piece result e = (l.intake.closed ≡ false) × LearnsAll now (with_piece l piece) result e

-- Whole messages at the front of what is then unread were learned, and the learner was closed: its state, what is due and
-- its rows are those of these messages.
abbrev pub IsCutOff : ℕ → Learning → List ℕ → Learning → Type 0
IsCutOff now l piece e = (ms : List Message) × (us : List Update) × (mid : Learning) × AreLearned now (with_piece l piece) ms us mid × (e ≡ shut_off mid)

-- ---- streams in pieces

-- the pieces are fed one after another, all at one moment and without a fault, and `count` rows are put
abbrev pub AreFed : ℕ → Learning → List (List ℕ) → ℕ → Learning → Type 0
AreFed now l [] count e = (count ≡ 0) × (e ≡ l)
AreFed now l (piece ∷ pieces) count e =
    (one : ℕ)
    × (rest : ℕ)
    × (mid : Learning)
    × (count ≡ one + rest)
    × LearnerFeeds now l piece (Ok one) mid
    × AreFed now mid pieces rest e

-- ---- results

-- each received id stands for the definition of the local table with that id, there was no fault, and nothing is unread
abbrev pub IsReady : Learning → Type 0
IsReady l =
    (roster_fault l.intake.roster ≡ None)
    × AreOwn l.intake.roster l.intake.state.received.tables
    × (l.intake.closed ≡ false)
    × (l.intake.unread ≡ [])

-- the updates `us` are put among the rows of `l`, all of them, the state `after` is reached, and nothing is left unread
abbrev pub IsTaught : ℕ → Learning → List Update → State → Learning → Type 0
IsTaught now l us after e =
    (e.intake.roster ≡ l.intake.roster)
    × (e.intake.state ≡ after)
    × (e.intake.unread ≡ [])
    × (e.intake.closed ≡ false)
    × (e.rows ≡ put_all now l.intake.roster us l.rows)

-- the learner is ready, its last numbers are in ascending order of id, and a teacher of its roster knows `k` of it
abbrev pub IsReadyIn : KnownState → Learning → Type 0
IsReadyIn k l = IsReady l × AreRising l.intake.state.last_numbers × (known_of l.intake.roster l.intake.state ≡ k)

-- the updates `us` are put among the rows of `l`, all of them, and the learner is ready for a lesson from the known
-- state `after`
abbrev pub HasLearned : ℕ → Learning → List Update → KnownState → Learning → Type 0
HasLearned now l us after e = (e.rows ≡ put_all now l.intake.roster us l.rows) × IsReadyIn after e
