-- Bytes that reach an open session in several events, one directly after another (profile).
use Rattle.std.specs.Prelude.{◌≡◌, ◌⊎◌, ℕ, Bool, true, List, [], ◌∷◌, ◌++◌, filter}
use Rattle.session_core.specs.declared.action.Action.{Action}
use Rattle.session_core.specs.declared.action.Action.TheVariants as actions
use Rattle.session_core.specs.declared.event.Event.TheVariants as events
use Rattle.session_core.specs.Phases as phases
use Rattle.session_core.specs.Actions.{is_confirmation}
use Rattle.session_core.specs.Sessions.{SessionState}
use Rattle.session_core.specs.Keeping.{KeptSession, Steps}

-- the pieces come one after another, in an event each, at any moments, and all in all ask for these actions
abbrev pub AreFed : KeptSession → List (List ℕ) → List Action → KeptSession → Type 0
AreFed s [] acts e = (acts ≡ []) × (e ≡ s)
AreFed s (piece ∷ pieces) acts e =
    (now : ℕ)
    × (one : List Action)
    × (rest : List Action)
    × (mid : KeptSession)
    × (acts ≡ one ++ rest)
    × Steps s now (events.Bytes piece) one mid
    × AreFed mid pieces rest e

-- of a stream of bytes, these are not fed: none, unless the session is over
abbrev pub IsFedOut : List ℕ → SessionState → Type 0
IsFedOut more e = (more ≡ []) ⊎ (e.phase ≡ phases.Ended)

-- an action that a message asks for, or the end of the session: of what an open session sends at such an event, only
-- resync confirmed answers a message, and the rest acknowledges rows
abbrev pub answers_message : Action → Bool
answers_message (actions.Send bytes) = is_confirmation (actions.Send bytes)
answers_message action = true

-- the actions without the acknowledgements that are sent
abbrev pub without_acks : List Action → List Action
without_acks acts = filter answers_message acts
