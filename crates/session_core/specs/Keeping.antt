-- A session and the manner in which it is kept: what it does at each event.
use Rattle.std.specs.Prelude.{◌≡◌, ℕ, Bool, true, false, List, [], Option, Some, None, is_some}
use Rattle.std.specs.Global.{Global}
use Rattle.std.specs.declared.boxed.Box.{Box}
use Rattle.std.specs.List.{list_any}
use Rattle.session_core.specs.declared.action.Action.{Action}
use Rattle.session_core.specs.declared.event.Event.{Event}
use Rattle.session_core.specs.declared.heard.Heard.{Heard}
use Rattle.session_core.specs.declared.machine.Machine.{Machine}
use Rattle.session_core.specs.declared.progress.Progress.{Progress}
use Rattle.session_core.specs.declared.stay.Stay.{Stay}
use Rattle.session_core.specs.declared.counts.Counts.{Counts}
use Rattle.session_core.specs.AskedCounts.{asked_as, none_asked}
use Rattle.session_core.specs.HeardCounts.{CountsEvent, none_heard}
use Rattle.session_core.specs.Paces.{Pace}
use Rattle.session_core.specs.Manners.{Manner}
use Rattle.session_core.specs.Manners as manners
use Rattle.session_core.specs.Courses.{Course}
use Rattle.session_core.specs.Phases.{Phase}
use Rattle.session_core.specs.Phases as phases
use Rattle.session_core.specs.Sessions.{SessionState, Goes, seen}
use Rattle.session_core.specs.Standing.{StandingState, Stands, stays_from}

-- what a session remembers: its state, its manner, what it counted of what the remote peer sent, and what it counted of what it asked
-- for since it began to stay
pub record KeptSession : Type 0 where
  pub session : SessionState
  pub manner : Manner
  pub heard : Heard
  pub counts : Counts

-- a plain session that received nothing
abbrev pub plain : SessionState → KeptSession
plain s = record { session = s; manner = manners.Plain; heard = none_heard; counts = none_asked }

abbrev pub standing : SessionState → Pace → StandingState
standing s p = record { session = s; pace = p }

-- the session `s` as one that stays
abbrev pub staying_as : KeptSession → StandingState → KeptSession
staying_as s t = record s { session = t.session; manner = manners.Staying t.pace }

abbrev pub is_staying : Manner → Bool
is_staying manners.Plain = false
is_staying (manners.Staying p) = true

-- what was taught of each table and acknowledged, in roster order; only the pace of a session that stays notes it
abbrev pub progress_in : Manner → List Progress
progress_in manners.Plain = []
progress_in (manners.Staying p) = p.progress

-- the remote peer acknowledged a number above every one that it was taught
abbrev pub is_any_ahead : Manner → Bool
is_any_ahead manner = list_any (λ q. q.ahead) (progress_in manner)

-- what the program keeps beside the machine of a session: nothing, or what it remembers for as long as it stays
abbrev pub manner_of : Option (Box Stay Global) → Manner
manner_of None = manners.Plain
manner_of (Some stay) = manners.Staying stay.value.pace

abbrev pub counts_of : Option (Box Stay Global) → Counts
counts_of None = none_asked
counts_of (Some stay) = stay.value.counts

abbrev pub seen_as : Machine → Option (Box Stay Global) → KeptSession
seen_as machine stay = record { session = seen machine; manner = manner_of stay; heard = machine.heard; counts = counts_of stay }

-- the machine's course and its reader are those of a session that stays, or of a plain one
abbrev pub IsKeptAs : Bool → Course → Type 0
IsKeptAs stays c = (c.stays ≡ stays) × (is_some c.tolerance ≡ stays)

-- so they are in this phase; at the end the course no longer matters
abbrev pub AreKeptAs : Bool → Phase → Type 0
AreKeptAs stays (phases.New hello c) = IsKeptAs stays c
AreKeptAs stays (phases.Hello greeter bytes c) = IsKeptAs stays c
AreKeptAs stays (phases.Open c) = IsKeptAs stays c
AreKeptAs stays phases.Ended = Unit {0}

-- the session stays from `now` on, and counts what it asks for from then on
abbrev pub kept_from : ℕ → KeptSession → KeptSession
kept_from now s = record (staying_as s (stays_from now s.session)) { counts = none_asked }

-- ---- an event

-- a plain session makes the step of the protocol's machine, whatever the moment; one that stays makes its own
abbrev pub StepsAs : Manner → KeptSession → ℕ → Event → List Action → KeptSession → Type 0
StepsAs manners.Plain s now event acts e = Goes s.session event acts e.session × (e.manner ≡ manners.Plain)
StepsAs (manners.Staying p) s now event acts e =
    (q : Pace) × Stands (standing s.session p) now event acts (standing e.session q) × (e.manner ≡ manners.Staying q)

-- At `event`, at the moment `now`, the session `s` becomes `e`, and asks for the actions `acts`. It counts the control messages that came
-- and what was passed over, and what it asked for.
abbrev pub Steps : KeptSession → ℕ → Event → List Action → KeptSession → Type 0
Steps s now event acts e =
    StepsAs s.manner s now event acts e
    × CountsEvent event s.session.phase s.heard e.heard
    × (e.counts ≡ asked_as s.manner acts s.counts)
