-- The course of an open session, and how each message of the remote peer changes it (HAProxy, doc/peers-v2.0.txt,
-- "Control Messages"; the rules of a resync are this node's own).
use Rattle.std.specs.Prelude.{◌≡◌, ◌≢◌, ℕ, Bool, true, false, not, ◌==◌, ◌&&◌, ◌||◌, List, [], ◌∷◌, ◌++◌, Option, Some, None, Result, Ok, Err, if◌then◌else◌}
use Rattle.table_types.specs.Tables.{Definition}
use Rattle.table_types.specs.declared.copies.CopyKind.{CopyKind}
use Rattle.table_types.specs.declared.copies.CopyKind.TheVariants as kinds
use Rattle.peers_msg.specs.declared.control.Control.{Control}
use Rattle.peers_msg.specs.declared.control.Control.TheVariants as controls
use Rattle.peers_msg.specs.declared.control.ErrorKind.{ErrorKind}
use Rattle.learner.specs.declared.fault.Fault.{Fault}
use Rattle.learner.specs.declared.fault.Fault.TheVariants as faults
use Rattle.learner.specs.declared.taken.Taken.{Taken}
use Rattle.learner.specs.declared.taken.Taken.TheVariants as taken
use Rattle.learner.specs.Intake.{Taking, begun, fed, due_acks}
use Rattle.tolerant_intake.specs.Tolerance.{Tolerance, nothing_passed}
use Rattle.tolerant_intake.specs.Reading.{Reading, Reads}
use Rattle.session_core.specs.declared.share.Share.{Share}
use Rattle.session_core.specs.declared.action.Action.{Action}
use Rattle.session_core.specs.declared.action.Action.TheVariants as actions
use Rattle.session_core.specs.declared.state.State.{State}
use Rattle.session_core.specs.declared.state.State.TheVariants as states
use Rattle.session_core.specs.declared.due.Due.{Due}
use Rattle.session_core.specs.declared.due.Due.TheVariants as dues
use Rattle.session_core.specs.declared.halt.Halt.{Halt}
use Rattle.session_core.specs.declared.halt.Halt.TheVariants as halts
use Rattle.session_core.specs.Acks.{ack_of}
use Rattle.session_core.specs.Shares.{any_out, is_out, shares_of, unquieted, next_table}
use Rattle.session_core.specs.Actions.{reopens, sends_control, sends_acks}

-- Whether the session stays for as long as its connection does; what was received from the remote peer; what its reader remembers
-- beside it, if it is tolerant; whether this node is up to date itself; the tables, in roster order; the table that was last asked for
-- a batch; whether the remote peer is being taught every row; whether its resync request is deferred; and the actions not answered
-- yet, in the order in which their answers are due.
pub record Course : Type 0 where
  pub stays : Bool
  pub intake : Taking
  pub tolerance : Option Tolerance
  pub up_to_date : Bool
  pub shares : List Share
  pub asked : Option ℕ
  pub teaching : Bool
  pub waits : Bool
  pub due : List Due

-- what reads the remote peer's messages
abbrev pub reading_of : Course → Reading
reading_of c = record { intake = c.intake; tolerance = c.tolerance }

-- before any message
abbrev pub course_begun : List Definition → Bool → Course
course_begun roster up_to_date = record { stays = false; intake = begun roster; tolerance = None; up_to_date = up_to_date; shares = shares_of roster; asked = None; teaching = false; waits = false; due = [] }

-- the session stays, and its reader is tolerant from then on
abbrev pub staying : Course → Course
staying c = record c { stays = true; tolerance = Some nothing_passed }

-- bytes of messages are received
abbrev pub course_fed : Course → List ℕ → Course
course_fed c bytes = record c { intake = fed c.intake bytes }

-- a resync begins: no table is quiet
abbrev pub teaching_anew : Course → Course
teaching_anew c = record c { shares = unquieted c.shares; teaching = true; waits = false }

-- this node is up to date itself from then on
abbrev pub caught_up : Course → Course
caught_up c = record c { up_to_date = true }

-- ---- one message

-- what defers a resync request: an outstanding batch; or that the session stays, which leaves it to a turn
abbrev pub is_held : Bool → List Share → Bool
is_held stays ss = stays || any_out ss

-- A deferred resync request waits. Otherwise the session is reopened in each table, and teaching begins.
abbrev pub requested : Bool → Course → List Action × Course
requested true c = ([], record c { waits = true })
requested false c = (reopens c.shares, teaching_anew c)

-- an acknowledgement of a table with an outstanding batch is passed on, and its answer is due; any other is ignored
abbrev pub acknowledged : Bool → Course → ℕ → ℕ → List Action × Course
acknowledged true c table number = (actions.Ack table number ∷ [], record c { due = c.due ++ (dues.Ack table ∷ []) })
acknowledged false c table number = ([], c)

-- an acknowledgement that isn't of a table of the roster is ignored
abbrev pub ack_received : Course → Option (ℕ × ℕ) → List Action × Course
ack_received c (Some (table, number)) = acknowledged (is_out table c.shares) c table number
ack_received c None = ([], c)

-- this node answers the end of a resync with resync confirmed, whether it requested the resync or not
abbrev pub said : Course → Control → List Action × Course
said c controls.ResyncRequest = requested (is_held c.stays c.shares) c
said c controls.ResyncFinished = (sends_control controls.ResyncConfirmed ∷ [], c)
said c controls.ResyncPartial = (sends_control controls.ResyncConfirmed ∷ [], c)
said c controls.ResyncConfirmed = ([], c)
said c controls.Heartbeat = ([], c)

-- the actions that a message asks for, and the course after it
abbrev pub message_received : Course → Taken → List Action × Course
message_received c (taken.Row u) = (actions.Learn u ∷ [], c)
message_received c taken.Passed = ([], c)
message_received c (taken.Said control) = said c control
message_received c (taken.Acked table number) = ack_received c (ack_of c.intake.roster (taken.Acked table number))
message_received c (taken.Failed kind) = ([], c)

-- ---- messages one after another

-- an error message, which ends the session
abbrev pub is_failure : Taken → Bool
is_failure (taken.Failed kind) = true
is_failure t = false

-- the next message is read, and isn't an error message
abbrev pub Receives : Course → Taken → Course → Type 0
Receives c t e =
    (is_failure t ≡ false)
    × Reads c.tolerance c.intake (Ok (Some t)) e.intake e.tolerance
    × (e ≡ record c { intake = e.intake; tolerance = e.tolerance })

-- no message is complete: the reader awaits more bytes
abbrev pub AwaitsMore : Course → Type 0
AwaitsMore c = Reads c.tolerance c.intake (Ok None) c.intake c.tolerance

-- these messages are received one after another, and ask for these actions
abbrev pub AreReceived : Course → List Taken → List Action → Course → Type 0
AreReceived c [] acts e = (acts ≡ []) × (e ≡ c)
AreReceived c (t ∷ ts) acts e =
    (mid : Course)
    × (rest : List Action)
    × Receives c t mid
    × (acts ≡ (message_received mid t).0 ++ rest)
    × AreReceived (message_received mid t).1 ts rest e

-- why the next message isn't received: it is an error message, or the reader stops at a fault
abbrev pub IsHalted : Course → Halt → Type 0
IsHalted c halts.Failed =
    (kind : ErrorKind) × (e : Taking) × (after : Option Tolerance) × Reads c.tolerance c.intake (Ok (Some (taken.Failed kind))) e after
IsHalted c (halts.Fault fault) =
    (fault ≢ faults.Memory) × (e : Taking) × (after : Option Tolerance) × Reads c.tolerance c.intake (Err fault) e after
IsHalted c halts.Memory = Unit {0}

-- running out of memory is no fault of the remote peer
abbrev pub halt_of : Fault → Halt
halt_of faults.Memory = halts.Memory
halt_of fault = halts.Fault fault

-- The complete messages are received one after another, up to the first that halts the session.
abbrev pub ReceivesAll : Course → Result (Unit {0}) Halt → List Action → Course → Type 0
ReceivesAll c (Ok _) acts e = (ts : List Taken) × AreReceived c ts acts e × AwaitsMore e
ReceivesAll c (Err halt) acts e = (ts : List Taken) × (mid : Course) × AreReceived c ts acts mid × IsHalted mid halt

-- the acknowledgements that are due are sent
abbrev pub acks_sent : Course → Course
acks_sent c = record c { intake = record c.intake { due = [] } }

abbrev pub acks_given : Course → List Action
acks_given c = sends_acks (due_acks c.intake)

-- ---- a turn

-- This node's own rows; or every row in a resync, which copies up to the session's bound in the table if the session stays.
abbrev pub kind_of : Bool → Bool → CopyKind
kind_of stays false = kinds.Push
kind_of false true = kinds.Resync
kind_of true true = kinds.Standing

-- the table that a turn asks for a batch; none while a resync request is deferred, unless the session stays
abbrev pub table_to_ask : Course → Option ℕ
table_to_ask c = if c.waits && not c.stays then None else next_table c.teaching c.asked c.shares

-- ---- answers

abbrev pub is_same_due : Due → Due → Bool
is_same_due (dues.Copy a) (dues.Copy b) = a == b
is_same_due dues.Teach dues.Teach = true
is_same_due (dues.Ack a) (dues.Ack b) = a == b
is_same_due a b = false

-- `d` is the first answer due
abbrev pub is_due : Due → List Due → Bool
is_due d [] = false
is_due d (first ∷ rest) = is_same_due first d

abbrev pub none_due : List Due → Bool
none_due [] = true
none_due (d ∷ ds) = false

-- `d` is the first answer due and is given; the others stay due
abbrev pub Answered : Course → Due → Course → Type 0
Answered c d e = (c.due ≡ d ∷ e.due) × (e ≡ record c { due = e.due })

-- how a resync ends: finished, or partial if this node isn't up to date itself
abbrev pub finished : Bool → Control
finished true = controls.ResyncFinished
finished false = controls.ResyncPartial

-- ---- what a caller can read

abbrev pub state_of_course : Bool → State
state_of_course true = states.Teaching
state_of_course false = states.Ready
