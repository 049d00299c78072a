-- What a worker does to its session is a run of the session.
use Rattle.std.proofs.Common.{ℕ, List, ◌∷◌, map}
use Rattle.session_core.specs.declared.event.Event.{Event}
use Rattle.session_core.specs.Keeping.{KeptSession}
use Rattle.session_core.specs.Happenings.{Happening, Lasts}
use Rattle.session_core.specs.Sessions.{state_of}
use Rattle.peers_engine.specs.Turns.{Moves, Turns, first_event}

pub event_happens : (s e : KeptSession) (now : ℕ) (event : Event) → Moves now event s e → (steps : List Happening) × Lasts s steps e
event_happens s e now event (acts, steps, walks) = (map (λ step. record { now = now; event = step.0; acts = step.1 }) ((event, acts) ∷ steps), walks)

pub turn_happens : (s e : KeptSession) (now : ℕ) → Turns now s e → (steps : List Happening) × Lasts s steps e
turn_happens s e now moves = event_happens s e now (first_event (state_of s.session.phase)) moves
