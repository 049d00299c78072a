-- Runs as proofs take them apart: those of the protocol's machine, and those of a session that stays.
use Rattle.std.specs.Prelude.{◌≡◌, ℕ, Bool, true, List, [], ◌∷◌, ◌++◌}
use Rattle.table_types.specs.Tables.{Definition}
use Rattle.session_core.specs.declared.action.Action.{Action}
use Rattle.session_core.specs.declared.event.Event.{Event}
use Rattle.session_core.specs.declared.event.Event.TheVariants as events
use Rattle.session_core.specs.Sessions.{SessionState, Goes, is_asked}
use Rattle.session_core.specs.Runs.{IsBegun}
use Rattle.session_core.specs.Paces.{has_passed, silence_time}
use Rattle.session_core.specs.Standing.{StandingState, Stands, TicksIn, stays_from}
use Rattle.session_core.specs.Happenings.{Happening}
use Rattle.session_core.specs.Hearing.{Awaits}

-- ---- the machine

-- the events of a run in order, each with the actions that it asked for
abbrev pub Runs : SessionState → List (Event × List Action) → SessionState → Type 0
Runs s [] e = e ≡ s
Runs s (step ∷ steps) e = (mid : SessionState) × Goes s step.0 step.1 mid × Runs mid steps e

-- the pieces come one after another, in an event each, and all in all ask for these actions
abbrev pub AreFed : SessionState → List (List ℕ) → List Action → SessionState → Type 0
AreFed s [] acts e = (acts ≡ []) × (e ≡ s)
AreFed s (piece ∷ pieces) acts e =
    (one : List Action)
    × (rest : List Action)
    × (mid : SessionState)
    × (acts ≡ one ++ rest)
    × Goes s (events.Bytes piece) one mid
    × AreFed mid pieces rest e

-- the session hears bytes and answers, in an event each
abbrev pub Hears : (ℕ → ℕ → Bool) → SessionState → List (ℕ × ℕ) → List (Event × List Action) → SessionState → List (ℕ × ℕ) → Type 0
Hears settles s due [] e left = (e ≡ s) × (left ≡ due)
Hears settles s due (step ∷ steps) e left =
    (mid : SessionState)
    × (rest : List (ℕ × ℕ))
    × Goes s step.0 step.1 mid
    × Awaits settles s step.0 step.1 due rest
    × Hears settles mid rest steps e left

-- ---- a session that stays

abbrev pub Happens : StandingState → Happening → StandingState → Type 0
Happens s one e = Stands s one.now one.event one.acts e

abbrev pub Lasts : StandingState → List Happening → StandingState → Type 0
Lasts s [] e = e ≡ s
Lasts s (one ∷ steps) e = (mid : StandingState) × Happens s one mid × Lasts mid steps e

-- a new session for the roster begins to stay
abbrev pub BeginsToStay : List Definition → StandingState → Type 0
BeginsToStay roster s = (begun : SessionState) × (now : ℕ) × IsBegun roster begun × (s ≡ stays_from now begun)

-- a tick leaves the tables `left`, and asks for `acts` once they are reopened
abbrev pub Ticks : StandingState → ℕ → List ℕ → List Action → StandingState → Type 0
Ticks s now left acts e =
    (is_asked s.session.phase events.Tick ≡ true)
    × TicksIn (has_passed silence_time s.pace.heard now) s.session.phase s now left acts e

-- what happened at a moment
abbrev pub at : ℕ → Event → List Action → Happening
at now event acts = record { now = now; event = event; acts = acts }
