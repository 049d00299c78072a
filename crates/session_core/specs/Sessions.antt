-- The machine of a session: what it does at each event (HAProxy, doc/peers-v2.0.txt, "Handshake" and "Control
-- Messages"; the order in which tables are asked for batches, and the answers, are this node's own).
use Rattle.std.specs.Prelude.{◌≡◌, ℕ, Bool, true, false, ◌==◌, ◌&&◌, ◌||◌, not, List, [], ◌∷◌, ◌++◌, drop, Option, Some, None, Result, Ok, Err}
use Rattle.table_types.specs.Tables.{Definition}
use Rattle.table_types.specs.declared.update.Update.{Update}
use Rattle.table_types.specs.declared.copies.Settled.{Settled}
use Rattle.table_types.specs.declared.copies.Settled.TheVariants as settles
use Rattle.peers_msg.specs.declared.fault.Breach.{Breach}
use Rattle.peers_msg.specs.declared.fault.Breach.TheVariants as breaches
use Rattle.peers_msg.specs.declared.control.Control.{Control}
use Rattle.peers_msg.specs.declared.control.Control.TheVariants as controls
use Rattle.peers_msg.specs.declared.control.ErrorKind.{ErrorKind}
use Rattle.peers_msg.specs.declared.control.ErrorKind.TheVariants as kinds
use Rattle.peers_hello.specs.declared.hello.Hello.{Hello}
use Rattle.table_types.specs.declared.version.Version.{Version}
use Rattle.table_types.specs.declared.version.Version.TheVariants as versions
use Rattle.peers_hello.specs.declared.hello.Answer.{Answer}
use Rattle.peers_hello.specs.declared.hello.Answer.TheVariants as answers
use Rattle.peers_hello.specs.declared.status.Status.{Status}
use Rattle.peers_hello.specs.declared.status.Status.TheVariants as statuses
use Rattle.peers_hello.specs.Hellos.{hello_text, answer_of}
use Rattle.peers_hello.specs.Statuses.{status_of}
use Rattle.known_state.specs.Known.{KnownState, fresh_of}
use Rattle.learner.specs.declared.fault.Fault.{Fault}
use Rattle.learner.specs.declared.fault.Fault.TheVariants as faults
use Rattle.session_core.specs.declared.action.Action.{Action}
use Rattle.session_core.specs.declared.action.Action.TheVariants as actions
use Rattle.session_core.specs.declared.event.Event.{Event}
use Rattle.session_core.specs.declared.event.Event.TheVariants as events
use Rattle.session_core.specs.declared.error.SessionError.{SessionError}
use Rattle.session_core.specs.declared.error.SessionError.TheVariants as errors
use Rattle.session_core.specs.declared.state.State.{State}
use Rattle.session_core.specs.declared.state.State.TheVariants as states
use Rattle.session_core.specs.declared.due.Due.{Due}
use Rattle.session_core.specs.declared.due.Due.TheVariants as dues
use Rattle.session_core.specs.declared.halt.Halt.{Halt}
use Rattle.session_core.specs.declared.halt.Halt.TheVariants as halts
use Rattle.session_core.specs.declared.phase.Greeter.{Greeter}
use Rattle.session_core.specs.declared.phase.Greeter.TheVariants as greeters
use Rattle.session_core.specs.Phases.{Phase}
use Rattle.session_core.specs.Phases as phases
use Rattle.session_core.specs.declared.phase.Stage.{Stage}
use Rattle.session_core.specs.declared.phase.Stage.TheVariants as stages
use Rattle.session_core.specs.declared.machine.Machine.{Machine}
use Rattle.session_core.specs.declared.handshake.Handshake.{Handshake}
use Rattle.session_core.specs.declared.handshake.Handshake.TheVariants as handshakes
use Rattle.session_core.specs.declared.share.Share.{Share}
use Rattle.session_core.specs.Shares.{all_quiet, out_set, quiet_set}
use Rattle.session_core.specs.Actions.{sends_control, status_text, reopens, confirms}
use Rattle.session_core.specs.Courses.{Course, course_begun, course_fed, caught_up, is_held, teaching_anew, ReceivesAll, acks_sent, acks_given, kind_of, table_to_ask, is_due, none_due, Answered, finished, state_of_course}

-- A session's phase; what it knows of the remote peer as a learner; the fault in the remote peer's messages that ended
-- it, if any; whether it sent resync confirmed; the version that both peers speak, once the hello is done; and whether it
-- fell back: it said version 2.1, and status 502 ended it.
pub record SessionState : Type 0 where
  pub phase : Phase
  pub known : KnownState
  pub fault : Option Fault
  pub confirmed : Bool
  pub version : Option Version
  pub fell_back : Bool

-- the phase of a session at a stage with the course `c`; at its end the course no longer matters
abbrev pub phase_of : Stage → Course → Phase
phase_of (stages.New hello) c = phases.New hello c
phase_of (stages.Hello greeter bytes) c = phases.Hello greeter bytes.items c
phase_of stages.Open c = phases.Open c
phase_of stages.Ended c = phases.Ended

-- the course of an open session
abbrev pub open_course : Phase → Option Course
open_course (phases.Open c) = Some c
open_course phase = None

-- the hello or the status is incomplete
abbrev pub is_hello : Stage → Bool
is_hello (stages.Hello greeter bytes) = true
is_hello stage = false

-- the state of the session that a machine steps
abbrev pub seen : Machine → SessionState
seen m = record { phase = phase_of m.stage m.course; known = m.known; fault = m.fault; confirmed = m.confirmed; version = m.version; fell_back = m.fell_back }

abbrev pub in_phase : SessionState → Phase → SessionState
in_phase s phase = record s { phase = phase }

-- the session is over; what it knew stays readable
abbrev pub ended : SessionState → SessionState
ended s = in_phase s phases.Ended

-- the session goes on with the course `c`
abbrev pub going : SessionState → Course → SessionState
going s c = in_phase s (phases.Open c)

-- ---- the beginning

-- a new session
abbrev pub begins_in : Phase → List Definition → SessionState
begins_in phase roster = record { phase = phase; known = fresh_of roster; fault = None; confirmed = false; version = None; fell_back = false }

-- the side that opens the connection and sends the hello
abbrev pub connecting : Hello → List Definition → Bool → SessionState
connecting hello roster up_to_date = begins_in (phases.New hello (course_begun roster up_to_date)) roster

-- the side that accepts the connection: this node is `own`, and accepts `peers`
abbrev pub accepting : List ℕ → List (List ℕ) → List Definition → Bool → SessionState
accepting own peers roster up_to_date = begins_in (phases.Hello (greeters.Accepts own peers) [] (course_begun roster up_to_date)) roster

-- ---- what several phases share

-- the session enters the phase and asks for nothing
abbrev pub Stays : SessionState → Phase → List Action → SessionState → Type 0
Stays s phase acts e = (acts ≡ []) × (e ≡ in_phase s phase)

abbrev pub Closes : SessionState → List Action → SessionState → Type 0
Closes s acts e = (acts ≡ actions.Close ∷ []) × (e ≡ ended s)

-- ---- bytes of messages

-- the error message that answers a breach
abbrev pub kind_of_breach : Breach → ErrorKind
kind_of_breach breaches.SizeLimit = kinds.SizeLimit
kind_of_breach breach = kinds.Protocol

-- the error message that answers a fault
abbrev pub kind_of_fault : Fault → ErrorKind
kind_of_fault (faults.Breach breach) = kind_of_breach breach
kind_of_fault fault = kinds.Protocol

-- the session is confirmed if it was before, or if one of the actions sends resync confirmed
abbrev pub confirmed_by : List Action → SessionState → SessionState
confirmed_by acts s = record s { confirmed = s.confirmed || confirms acts }

-- What follows the received messages: the acknowledgements that are due, unless one of the messages halted the session.
-- An error message closes the connection, and the session answers a fault with an error message, both without the
-- acknowledgements.
abbrev pub Concludes : SessionState → Course → Result (Unit {0}) Halt → List Action → List Action → SessionState → Type 0
Concludes s c (Ok _) given acts e = (acts ≡ given ++ acks_given c) × (e ≡ confirmed_by acts (going s (acks_sent c)))
Concludes s c (Err halts.Failed) given acts e = (acts ≡ given ++ (actions.Close ∷ [])) × (e ≡ confirmed_by acts (ended s))
Concludes s c (Err (halts.Fault fault)) given acts e =
    (acts ≡ given ++ (actions.Part (kind_of_fault fault) ∷ []))
    × (e ≡ confirmed_by acts (record s { phase = phases.Ended; fault = Some fault }))
Concludes s c (Err halts.Memory) given acts e = ⊥

-- The course `c` was fed bytes: its messages are received one after another, after the actions first.
abbrev pub ReceivesBytes : SessionState → Course → List Action → List Action → SessionState → Type 0
ReceivesBytes s c first acts e =
    (result : Result (Unit {0}) Halt)
    × (given : List Action)
    × (mid : Course)
    × ReceivesAll c result given mid
    × Concludes s mid result (first ++ given) acts e

-- ---- New

abbrev pub GoesNew : SessionState → Hello → Course → Event → List Action → SessionState → Type 0
GoesNew s hello c events.Opened acts e = (acts ≡ actions.Send (hello_text hello) ∷ []) × (e ≡ in_phase s (phases.Hello (greeters.Connects hello.version) [] c))
GoesNew s hello c events.Turn acts e = Stays s (phases.New hello c) acts e
GoesNew s hello c events.Tick acts e = Stays s (phases.New hello c) acts e
GoesNew s hello c events.Ask acts e = Stays s (phases.New hello c) acts e
GoesNew s hello c events.CaughtUp acts e = Stays s (phases.New hello (caught_up c)) acts e
GoesNew s hello c events.End acts e = Closes s acts e
GoesNew s hello c events.ReadFault acts e = Closes s acts e
GoesNew s hello c events.WriteFault acts e = Closes s acts e
GoesNew s hello c event acts e = ⊥

-- ---- Hello

-- What a session adds on becoming Ready: one of version 2.0 reopens each table, in roster order.
abbrev pub opening : Version → List Share → List Action
opening versions.V20 ss = reopens ss
opening versions.V21 ss = []

-- both peers speak this version
abbrev pub speaking : Version → SessionState → SessionState
speaking version s = record s { version = Some version }

-- The hello is done, and `rest` are the bytes of messages after it. The session does this first, and what its version adds.
abbrev pub BecomesReady : Version → Action → SessionState → Course → List ℕ → List Action → SessionState → Type 0
BecomesReady version first s c rest acts e = ReceivesBytes (speaking version s) (course_fed c rest) (first ∷ opening version c.shares) acts e

-- a session that said version 2.1 falls back at status 502
abbrev pub falls_back : Version → ℕ → Bool
falls_back versions.V20 code = false
falls_back versions.V21 code = code == 502

abbrev pub falling_back : Bool → SessionState → SessionState
falling_back falls s = record s { fell_back = falls || s.fell_back }

-- the first message of a session that connects: it requests a resync; or, if it stays, sends a heartbeat, and requests none by itself
abbrev pub first_word : Bool → Control
first_word false = controls.ResyncRequest
first_word true = controls.Heartbeat

-- The session, which said this version, answers status 200 with its first message. Any other status closes.
abbrev pub IsWelcomed : Bool → Version → ℕ → SessionState → Course → List ℕ → List Action → SessionState → Type 0
IsWelcomed true version code s c rest acts e = BecomesReady version (sends_control (first_word c.stays)) s c rest acts e
IsWelcomed false version code s c rest acts e = Closes (falling_back (falls_back version code) s) acts e

-- by the status; the bytes are kept until its line is complete
abbrev pub Connects : Version → Status → SessionState → List ℕ → Course → List Action → SessionState → Type 0
Connects version statuses.More s bytes c acts e = Stays s (phases.Hello (greeters.Connects version) bytes c) acts e
Connects version (statuses.Code code used) s bytes c acts e = IsWelcomed (code == 200) version code s c (drop used bytes) acts e
Connects version (statuses.Other used) s bytes c acts e = Closes s acts e

-- the session answers an accepted hello with status 200, and the bytes after it are messages; any other with its code
abbrev pub Accepts : Answer → SessionState → Greeter → List ℕ → Course → List Action → SessionState → Type 0
Accepts answers.More s greeter bytes c acts e = Stays s (phases.Hello greeter bytes c) acts e
Accepts (answers.Accepted name version used) s greeter bytes c acts e = BecomesReady version (actions.Send (status_text 200)) s c (drop used bytes) acts e
Accepts (answers.Refused code used) s greeter bytes c acts e = (acts ≡ actions.Send (status_text code) ∷ (actions.Close ∷ [])) × (e ≡ ended s)

-- by this node's side of the handshake, and the bytes so far
abbrev pub Greets : SessionState → Greeter → List ℕ → Course → List Action → SessionState → Type 0
Greets s (greeters.Connects version) bytes c acts e = Connects version (status_of bytes) s bytes c acts e
Greets s (greeters.Accepts own peers) bytes c acts e = Accepts (answer_of own peers bytes) s (greeters.Accepts own peers) bytes c acts e

-- what follows in a session whose bytes so far amount to this
abbrev pub Follows : Handshake → SessionState → Greeter → List ℕ → Course → List Action → SessionState → Type 0
Follows handshakes.Incomplete s greeter bytes c acts e = Stays s (phases.Hello greeter bytes c) acts e
Follows (handshakes.Accepted used version answer) s greeter bytes c acts e =
    ReceivesBytes (speaking version s) (course_fed c (drop used bytes)) (answer.items ++ opening version c.shares) acts e
Follows (handshakes.Refused given falls) s greeter bytes c acts e = (acts ≡ given.items) × (e ≡ ended (falling_back falls s))

abbrev pub GoesHello : SessionState → Greeter → List ℕ → Course → Event → List Action → SessionState → Type 0
GoesHello s greeter bytes c (events.Bytes piece) acts e = Greets s greeter (bytes ++ piece) c acts e
GoesHello s greeter bytes c events.Turn acts e = Stays s (phases.Hello greeter bytes c) acts e
GoesHello s greeter bytes c events.Tick acts e = Stays s (phases.Hello greeter bytes c) acts e
GoesHello s greeter bytes c events.Ask acts e = Stays s (phases.Hello greeter bytes c) acts e
GoesHello s greeter bytes c events.CaughtUp acts e = Stays s (phases.Hello greeter bytes (caught_up c)) acts e
GoesHello s greeter bytes c events.End acts e = Closes s acts e
GoesHello s greeter bytes c events.ReadFault acts e = Closes s acts e
GoesHello s greeter bytes c events.WriteFault acts e = Closes s acts e
GoesHello s greeter bytes c event acts e = ⊥

-- ---- Ready and Teaching

-- a turn copies from the next table, if there is one
abbrev pub Turns : Option ℕ → SessionState → Course → List Action → SessionState → Type 0
Turns None s c acts e = Stays s (phases.Open c) acts e
Turns (Some table) s c acts e =
    (acts ≡ actions.Copy table (kind_of c.stays c.teaching) ∷ [])
    × (e ≡ going s (record c { asked = Some table; due = dues.Copy table ∷ [] }))

-- this node requests a resync
abbrev pub Requests : SessionState → Course → List Action → SessionState → Type 0
Requests s c acts e = (acts ≡ sends_control controls.ResyncRequest ∷ []) × (e ≡ going s c)

-- a batch was copied: it is outstanding, and its lesson is to be written
abbrev pub IsCopied : SessionState → Course → ℕ → List Update → List Action → SessionState → Type 0
IsCopied s c table batch acts e =
    (acts ≡ actions.Teach batch ∷ [])
    × (e ≡ going s (record c { shares = out_set table true c.shares; due = dues.Teach ∷ c.due }))

-- a resync ends once all tables are quiet
abbrev pub FinishesResync : Bool → SessionState → Course → List Action → SessionState → Type 0
FinishesResync true s c acts e = (acts ≡ sends_control (finished c.up_to_date) ∷ []) × (e ≡ going s (record c { teaching = false }))
FinishesResync false s c acts e = Stays s (phases.Open c) acts e

-- a table has nothing to teach: in a resync it is now quiet
abbrev pub HasNothing : Bool → SessionState → Course → ℕ → List Action → SessionState → Type 0
HasNothing true s c table acts e = FinishesResync (all_quiet (quiet_set table c.shares)) s (record c { shares = quiet_set table c.shares }) acts e
HasNothing false s c table acts e = Stays s (phases.Open c) acts e

-- a deferred resync begins once nothing defers it: no batch is outstanding, and the session doesn't stay
abbrev pub StartsPendingResync : Bool → SessionState → Course → List Action → SessionState → Type 0
StartsPendingResync true s c acts e = (acts ≡ reopens c.shares) × (e ≡ going s (teaching_anew c))
StartsPendingResync false s c acts e = Stays s (phases.Open c) acts e

-- a batch that is acknowledged to its end is no longer outstanding
abbrev pub Settles : Settled → SessionState → Course → ℕ → List Action → SessionState → Type 0
Settles settles.All s c table acts e = StartsPendingResync (c.waits && not (is_held c.stays (out_set table false c.shares))) s (record c { shares = out_set table false c.shares }) acts e
Settles settled s c table acts e = Stays s (phases.Open c) acts e

abbrev pub GoesOpen : SessionState → Course → Event → List Action → SessionState → Type 0
GoesOpen s c events.Turn acts e = (c.due ≡ []) × Turns (table_to_ask c) s c acts e
GoesOpen s c events.Tick acts e = (c.due ≡ []) × Stays s (phases.Open c) acts e
GoesOpen s c events.Ask acts e = (c.due ≡ []) × Requests s c acts e
GoesOpen s c events.CaughtUp acts e = (c.due ≡ []) × Stays s (phases.Open (caught_up c)) acts e
GoesOpen s c (events.Bytes bytes) acts e = (c.due ≡ []) × ReceivesBytes s (course_fed c bytes) [] acts e
GoesOpen s c (events.Copied table batch) acts e = (mid : Course) × Answered c (dues.Copy table) mid × IsCopied s mid table batch acts e
GoesOpen s c (events.Nothing table) acts e = (mid : Course) × Answered c (dues.Copy table) mid × HasNothing mid.teaching s mid table acts e
GoesOpen s c (events.Written known) acts e =
    (mid : Course)
    × Answered c dues.Teach mid
    × (acts ≡ [])
    × (e ≡ record s { phase = phases.Open mid; known = known })
GoesOpen s c (events.Settled table settled) acts e = (mid : Course) × Answered c (dues.Ack table) mid × Settles settled s mid table acts e
GoesOpen s c (events.Refused table) acts e =
    (mid : Course)
    × Answered c (dues.Ack table) mid
    × (acts ≡ actions.Part kinds.Protocol ∷ [])
    × (e ≡ ended s)
GoesOpen s c events.End acts e = Closes s acts e
GoesOpen s c events.ReadFault acts e = Closes s acts e
GoesOpen s c events.WriteFault acts e = Closes s acts e
GoesOpen s c events.Opened acts e = ⊥

-- the open session `s` goes on, and its course `c` becomes `e`
abbrev pub GoesOn : SessionState → Course → Event → List Action → Course → Type 0
GoesOn s c event acts e = GoesOpen s c event acts (going s e)

-- ---- any phase

abbrev pub GoesIn : Phase → SessionState → Event → List Action → SessionState → Type 0
GoesIn (phases.New hello c) s event acts e = GoesNew s hello c event acts e
GoesIn (phases.Hello greeter bytes c) s event acts e = GoesHello s greeter bytes c event acts e
GoesIn (phases.Open c) s event acts e = GoesOpen s c event acts e
GoesIn phases.Ended s event acts e = ⊥

-- at `event` the session `s` becomes `e`, and asks for the actions `acts`
abbrev pub Goes : SessionState → Event → List Action → SessionState → Type 0
Goes s event acts e = GoesIn s.phase s event acts e

-- ---- refusals

-- whether an open session may receive the event: an answer if it is the first due; bytes, a turn and what is like one if none is due
abbrev pub is_asked_open : List Due → Event → Bool
is_asked_open due events.Turn = none_due due
is_asked_open due events.Tick = none_due due
is_asked_open due events.Ask = none_due due
is_asked_open due events.CaughtUp = none_due due
is_asked_open due (events.Bytes bytes) = none_due due
is_asked_open due (events.Copied table batch) = is_due (dues.Copy table) due
is_asked_open due (events.Nothing table) = is_due (dues.Copy table) due
is_asked_open due (events.Written known) = is_due dues.Teach due
is_asked_open due (events.Settled table settled) = is_due (dues.Ack table) due
is_asked_open due (events.Refused table) = is_due (dues.Ack table) due
is_asked_open due events.Opened = false
is_asked_open due event = true

abbrev pub is_asked_new : Event → Bool
is_asked_new events.Opened = true
is_asked_new events.Turn = true
is_asked_new events.Tick = true
is_asked_new events.Ask = true
is_asked_new events.CaughtUp = true
is_asked_new events.End = true
is_asked_new events.ReadFault = true
is_asked_new events.WriteFault = true
is_asked_new event = false

abbrev pub is_asked_hello : Event → Bool
is_asked_hello (events.Bytes bytes) = true
is_asked_hello events.Turn = true
is_asked_hello events.Tick = true
is_asked_hello events.Ask = true
is_asked_hello events.CaughtUp = true
is_asked_hello events.End = true
is_asked_hello events.ReadFault = true
is_asked_hello events.WriteFault = true
is_asked_hello event = false

-- whether the event may happen in the phase
abbrev pub is_asked : Phase → Event → Bool
is_asked (phases.New hello c) event = is_asked_new event
is_asked (phases.Hello greeter bytes c) event = is_asked_hello event
is_asked (phases.Open c) event = is_asked_open c.due event
is_asked phases.Ended event = false

-- why an event is refused: it may not happen, or else memory ran out
abbrev pub IsWhy : Bool → SessionError → Type 0
IsWhy true errors.Memory = Unit {0}
IsWhy false errors.Unasked = Unit {0}
IsWhy asked error = ⊥

-- a session that is over refuses every event with Ended
abbrev pub Refuses : Phase → Event → SessionError → Type 0
Refuses phases.Ended event error = error ≡ errors.Ended
Refuses phase event error = IsWhy (is_asked phase event) error

-- a refused event leaves what stays readable
abbrev pub Keeps : Machine → Machine → Type 0
Keeps m e = (e.known ≡ m.known) × (e.fault ≡ m.fault) × (e.confirmed ≡ m.confirmed) × (e.version ≡ m.version) × (e.fell_back ≡ m.fell_back) × (e.heard ≡ m.heard)

-- ---- what a caller can read

abbrev pub state_of : Phase → State
state_of (phases.New hello c) = states.New
state_of (phases.Hello greeter bytes c) = states.Hello
state_of (phases.Open c) = state_of_course c.teaching
state_of phases.Ended = states.Ended
