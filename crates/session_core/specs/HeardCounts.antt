-- What a session counts of what the remote peer sends: how often each control message came, and how often something was passed over,
-- for each cause.
use Rattle.std.specs.Prelude.{◌≡◌, ◌≢◌, ◌⊎◌, ℕ, ◌+◌, ◌-◌, ◌^◌, min, List, [], ◌∷◌, ◌++◌, drop}
use Rattle.peers_hello.specs.Meetings.{Meeting, Opens, Refuses, Waits, by_answer, by_status}
use Rattle.peers_hello.specs.Hellos.{answer_of}
use Rattle.peers_hello.specs.Statuses.{status_of}
use Rattle.peers_msg.specs.declared.control.Control.{Control}
use Rattle.peers_msg.specs.declared.control.Control.TheVariants as controls
use Rattle.learner.specs.declared.taken.Taken.{Taken}
use Rattle.learner.specs.declared.taken.Taken.TheVariants as taken
use Rattle.tolerant_intake.specs.declared.passed_over.PassedOver.{PassedOver}
use Rattle.tolerant_intake.specs.Counts.{none_passed}
use Rattle.tolerant_intake.specs.Reading.{passed_by}
use Rattle.session_core.specs.declared.action.Action.{Action}
use Rattle.session_core.specs.declared.controls.Controls.{Controls}
use Rattle.session_core.specs.declared.event.Event.{Event}
use Rattle.session_core.specs.declared.event.Event.TheVariants as events
use Rattle.session_core.specs.declared.halt.Halt.{Halt}
use Rattle.session_core.specs.declared.halt.Halt.TheVariants as halts
use Rattle.session_core.specs.declared.heard.Heard.{Heard}
use Rattle.session_core.specs.declared.handshake.Handshake.{Handshake}
use Rattle.session_core.specs.declared.handshake.Handshake.TheVariants as handshakes
use Rattle.session_core.specs.declared.phase.Greeter.{Greeter}
use Rattle.session_core.specs.declared.phase.Greeter.TheVariants as greeters
use Rattle.session_core.specs.Phases.{Phase}
use Rattle.session_core.specs.Phases as phases
use Rattle.session_core.specs.Courses.{Course, AreReceived, AwaitsMore, IsHalted, course_fed}

-- before any message
abbrev pub none_counted : Controls
none_counted = record { requests = 0; finished = 0; partial = 0; confirmed = 0; heartbeats = 0 }

-- a count that is full stays as it is
abbrev pub one_more : ℕ → ℕ
one_more n = min (n + 1) (2 ^ 64 - 1)

abbrev pub counted : Control → Controls → Controls
counted controls.ResyncRequest n = record n { requests = one_more n.requests }
counted controls.ResyncFinished n = record n { finished = one_more n.finished }
counted controls.ResyncPartial n = record n { partial = one_more n.partial }
counted controls.ResyncConfirmed n = record n { confirmed = one_more n.confirmed }
counted controls.Heartbeat n = record n { heartbeats = one_more n.heartbeats }

abbrev pub message_counted : Taken → Controls → Controls
message_counted (taken.Said control) n = counted control n
message_counted t n = n

-- these messages were received
abbrev pub all_counted : List Taken → Controls → Controls
all_counted [] n = n
all_counted (t ∷ ts) n = all_counted ts (message_counted t n)

-- before anything came
abbrev pub none_heard : Heard
none_heard = record { controls = none_counted; passed_over = none_passed }

-- these are the messages that the course takes in, one after another, up to the first that halts the session, and this was passed
-- over then
abbrev pub TakesIn : Course → List Taken → PassedOver → Type 0
TakesIn c ts passed =
    (acts : List Action)
    × (e : Course)
    × AreReceived c ts acts e
    × (AwaitsMore e ⊎ ((halt : Halt) × (halt ≢ halts.Memory) × IsHalted e halt))
    × (passed ≡ passed_by e.tolerance)

-- the control messages in these bytes are counted, and what is passed over by then
abbrev pub CountsBytes : Course → List ℕ → Heard → Heard → Type 0
CountsBytes c bytes n m =
    (ts : List Taken) × TakesIn (course_fed c bytes) ts m.passed_over × (m.controls ≡ all_counted ts n.controls)

-- what the first bytes of a session amount to, by its side of the handshake
abbrev pub meeting_of : Greeter → List ℕ → Meeting
meeting_of (greeters.Connects version) bytes = by_status version (status_of bytes) bytes
meeting_of (greeters.Accepts own peers) bytes = by_answer (answer_of own peers bytes) bytes

-- what is counted in a session whose first bytes amount to this: only the bytes after a hello are messages
abbrev pub CountsFor : Handshake → List ℕ → Course → Heard → Heard → Type 0
CountsFor (handshakes.Accepted used version answer) bytes c n m = CountsBytes c (drop used bytes) n m
CountsFor handshake bytes c n m = m ≡ n

abbrev pub CountsAfter : Meeting → Course → Heard → Heard → Type 0
CountsAfter (Opens version rest) c n m = CountsBytes c rest n m
CountsAfter (Refuses code) c n m = m ≡ n
CountsAfter Waits c n m = m ≡ n

abbrev pub CountsIn : Phase → List ℕ → Heard → Heard → Type 0
CountsIn (phases.Open c) bytes n m = CountsBytes c bytes n m
CountsIn (phases.Hello greeter bytes c) piece n m = CountsAfter (meeting_of greeter (bytes ++ piece)) c n m
CountsIn phase bytes n m = m ≡ n

-- What is counted at an event: the control messages in its bytes, if it has any, and what of them was passed over. `n` was counted
-- before it, and `m` is after.
abbrev pub CountsEvent : Event → Phase → Heard → Heard → Type 0
CountsEvent (events.Bytes bytes) phase n m = CountsIn phase bytes n m
CountsEvent event phase n m = m ≡ n
