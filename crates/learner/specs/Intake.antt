-- What an intake holds, and what it does with the bytes that it is fed (profile).
use Rattle.std.specs.Prelude.{◌≡◌, ◌≢◌, ℕ, Bool, true, false, ◌&&◌, is_some, List, [], ◌∷◌, ◌++◌, filter_map, Option, Some, None, option_map, Result, Ok, Err, if◌then◌else◌}
use Rattle.std.specs.BTreeSet.{insert_key}
use Rattle.std.specs.Ordering.{nat_cmp}
use Rattle.table_types.specs.declared.update.Update.{Update}
use Rattle.table_types.specs.Tables.{Definition}
use Rattle.peers_msg.specs.declared.message.Message.{Message}
use Rattle.peers_msg.specs.declared.message.Message.TheVariants as messages
use Rattle.peers_msg.specs.Reading.{message_at}
use Rattle.known_state.specs.State.{State, Step, fresh}
use Rattle.known_state.specs.LastNumbers.{last_of}
use Rattle.known_state.specs.Effects.{message_refusal}
use Rattle.known_state.specs.Known.{is_in}
use Rattle.learner.specs.declared.fault.Fault.{Fault}
use Rattle.learner.specs.declared.fault.Fault.TheVariants as faults
use Rattle.learner.specs.declared.taken.Taken.{Taken}
use Rattle.learner.specs.declared.taken.Taken.TheVariants as taken
use Rattle.learner.specs.Faults.{as_fault}
use Rattle.learner.specs.LocalTables.{local_id, local_table, local_updates}

-- the local tables; the state after the messages read; the ids that had an update since the last acknowledgements, in
-- ascending order; the bytes that haven't been read yet; and whether there was a fault
pub record Taking : Type 0 where
  pub roster : List Definition
  pub state : State
  pub due : List ℕ
  pub unread : List ℕ
  pub closed : Bool

-- nothing has been fed yet
abbrev pub begun : List Definition → Taking
begun roster = record { roster = roster; state = fresh; due = []; unread = []; closed = false }

-- these bytes are unread, and no others
abbrev pub with_unread : Taking → List ℕ → Taking
with_unread t bytes = record t { unread = bytes }

-- bytes are fed
abbrev pub fed : Taking → List ℕ → Taking
fed t piece = with_unread t (t.unread ++ piece)

-- after a fault: no bytes are held
abbrev pub shut : Taking → Taking
shut t = record t { unread = []; closed = true }

-- ---- one message

-- the due ids, in ascending order, with one more
abbrev pub with_due : Option ℕ → List ℕ → List ℕ
with_due None due = due
with_due (Some id) due = insert_key nat_cmp due id

-- an update makes its table due; an id that loses its last number at a definition has nothing to acknowledge
abbrev pub due_after : State → Message → List ℕ → List ℕ
due_after s (messages.Update u) due = with_due s.received.selected due
due_after s m due = due

-- The message `m` is at the front and makes its step, which leads to `e`; `local` are the updates of local tables among
-- those that it carries.
abbrev pub Takes : Taking → Message → List Update → Taking → Type 0
Takes t m local e =
    (t.closed ≡ false)
    × (rest : List ℕ)
    × (message_at t.state.received t.unread ≡ Ok (Some (m, rest)))
    × (us : List Update)
    × Step t.state m us e.state
    × (local ≡ local_updates t.roster t.state.received us)
    × (e ≡ record { roster = t.roster; state = e.state; due = due_after t.state m t.due; unread = rest; closed = false })

-- a whole message that isn't refused is at the front
abbrev pub IsTakable : Taking → Type 0
IsTakable t = (m : Message) × (rest : List ℕ) × (message_at t.state.received t.unread ≡ Ok (Some (m, rest))) × (message_refusal t.state m ≡ None)

-- why a whole message isn't taken: the state refuses it, or the state doesn't refuse it and memory runs out
abbrev pub IsRefused : State → Message → Fault → Type 0
IsRefused s m faults.Memory = message_refusal s m ≡ None
IsRefused s m fault = option_map as_fault (message_refusal s m) ≡ Some fault

-- Why no message is taken. If a message that the state refuses, or no message, is at the front, the intake closes.
-- Memory can run out only for a whole message that isn't refused, and then nothing changes. A closed intake stays
-- closed.
abbrev pub Stops : Taking → Fault → Taking → Type 0
Stops t faults.Memory e = (t.closed ≡ false) × IsTakable t × (e ≡ t)
Stops t faults.Closed e = (t.closed ≡ true) × (e ≡ t)
Stops t (faults.Breach breach) e =
    (t.closed ≡ false)
    × (message_at t.state.received t.unread ≡ Err breach)
    × (e ≡ shut t)
Stops t fault e =
    (t.closed ≡ false)
    × (m : Message)
    × (rest : List ℕ)
    × (message_at t.state.received t.unread ≡ Ok (Some (m, rest)))
    × IsRefused t.state m fault
    × (e ≡ shut t)

-- ---- answers

-- the updates of local tables that an answer gives
abbrev pub rows_of : Taken → List Update
rows_of (taken.Row u) = u ∷ []
rows_of t = []

-- what an answer tells of a message that gives no row
abbrev pub answer_of : Message → Taken
answer_of (messages.Control c) = taken.Said c
answer_of (messages.Error e) = taken.Failed e
answer_of (messages.Ack table number) = taken.Acked table number
answer_of m = taken.Passed

abbrev pub Answers : Message → Taken → Type 0
Answers (messages.Update u) (taken.Row local) = Unit {0}
Answers m answer = answer ≡ answer_of m

-- what taking the message at the front does
abbrev pub Gives : Taking → Result Taken Fault → Taking → Type 0
Gives t (Ok answer) e = (m : Message) × Takes t m (rows_of answer) e × Answers m answer
Gives t (Err fault) e = Stops t fault e

-- what asking for a message does
abbrev pub IntakeNext : Taking → Result (Option Taken) Fault → Taking → Type 0
IntakeNext t (Ok None) e = (t.closed ≡ false) × (message_at t.state.received t.unread ≡ Ok None) × (e ≡ t)
IntakeNext t (Ok (Some answer)) e = Gives t (Ok answer) e
IntakeNext t (Err fault) e = Gives t (Err fault) e

-- What feeding bytes does. Only bytes that aren't held yet need memory, and if it runs out, nothing changes.
abbrev pub IntakeFeeds : Taking → List ℕ → Result (Unit {0}) Fault → Taking → Type 0
IntakeFeeds t piece (Ok _) e = (t.closed ≡ false) × (e ≡ fed t piece)
IntakeFeeds t piece (Err faults.Memory) e = (t.closed ≡ false) × (piece ≢ []) × (e ≡ t)
IntakeFeeds t piece (Err faults.Closed) e = (t.closed ≡ true) × (e ≡ t)
IntakeFeeds t piece (Err fault) e = ⊥

-- ---- acknowledgements

-- the acknowledgement of a received table: of its last number, if the table is local and due
abbrev pub due_ack : Taking → Definition → Option Message
due_ack t d =
    if is_some (local_table t.roster d) && is_in d.id t.due then option_map (λ n. messages.Ack d.id n) (last_of t.state.last_numbers d.id)
    else None

-- the acknowledgement of an id: of its last number, if it stands for a local table
abbrev pub ack_of : Taking → ℕ → Option Message
ack_of t id =
    if is_some (local_id t.roster t.state.received id) then option_map (λ n. messages.Ack id n) (last_of t.state.last_numbers id)
    else None

-- one for each received table that has one, in ascending order of id
abbrev pub due_acks : Taking → List Message
due_acks t = filter_map (due_ack t) t.state.received.tables
