-- Performing a session's actions one after another, and how far an error lets them go.
use Rattle.std.specs.Prelude.{◌≡◌, ◌≢◌, ◌⊎◌, ℕ, List, [], ◌∷◌, ◌++◌, Option, Some, None}
use Rattle.table_shards.specs.Receipts.{SeatState}
use Rattle.table_shards.specs.Rounds.{ShardsState}
use Rattle.session_core.specs.declared.action.Action.{Action}
use Rattle.session_core.specs.declared.error.SessionError.{SessionError}
use Rattle.session_core.specs.declared.event.Event.{Event}
use Rattle.session_core.specs.declared.state.State.{State}
use Rattle.session_core.specs.declared.state.State.TheVariants as states
use Rattle.session_core.specs.Keeping.{KeptSession, Steps, is_staying, progress_in}
use Rattle.session_core.specs.Sessions.{SessionState, Refuses, ended, state_of}
use Rattle.peers_engine.specs.declared.errors.EngineError.{EngineError}
use Rattle.peers_engine.specs.declared.errors.EngineError.TheVariants as errors
use Rattle.peers_engine.specs.Doing.{Done, Fails}

-- A session at work: its state, the seat from which it calls the tables, its number in them, and the moment of the
-- turn.
pub record Worker : Type 0 where
  pub session : KeptSession
  pub seat : SeatState
  pub number : ℕ
  pub now : ℕ

abbrev pub worker : KeptSession → SeatState → ℕ → ℕ → Worker
worker s seat number now = record { session = s; seat = seat; number = number; now = now }

-- the same worker with the session `s` and the seat `seat`
abbrev pub stands : Worker → KeptSession → SeatState → Worker
stands w s seat = worker s seat w.number w.now

-- the worker performs an action, at the moment of a plain session or of one that stays
abbrev pub DoneBy : Worker → Action → List ℕ → Option Event → SeatState → Type 0
DoneBy w act out answer seat = Done (is_staying w.session.manner) w.number w.now w.session.session w.seat act out answer seat

-- the worker fails to
abbrev pub FailsBy : ShardsState → Worker → Action → EngineError → List ℕ → SeatState → Type 0
FailsBy shards w act error out seat = Fails shards (is_staying w.session.manner) w.number w.now w.session.session w.seat act error out seat

-- the session is over, has heard and counted what `s` did, and says the progress of `s`
abbrev pub IsOver : KeptSession → KeptSession → Type 0
IsOver s e =
    (e.session ≡ ended s.session) × (e.heard ≡ s.heard) × (e.counts ≡ s.counts) × (progress_in e.manner ≡ progress_in s.manner)

-- once it is over, the session is as `s` would be, and it has heard and counted what `s` did and says the progress of `s`
abbrev pub EndsAlike : KeptSession → KeptSession → Type 0
EndsAlike s e =
    (ended e.session ≡ ended s.session) × (e.heard ≡ s.heard) × (e.counts ≡ s.counts) × (progress_in e.manner ≡ progress_in s.manner)

-- The session receives an answer, if there is one, as the one event of a run. A session that is over receives nothing.
abbrev pub IsGivenIn : State → KeptSession → ℕ → Event → List (Event × List Action) → KeptSession → Type 0
IsGivenIn states.Ended s now event steps e = (steps ≡ []) × (e ≡ s)
IsGivenIn state s now event steps e = (acts : List Action) × Steps s now event acts e × (steps ≡ (event, acts) ∷ [])

abbrev pub IsGiven : KeptSession → ℕ → Option Event → List (Event × List Action) → KeptSession → Type 0
IsGiven s now None steps e = (steps ≡ []) × (e ≡ s)
IsGiven s now (Some event) steps e = IsGivenIn (state_of s.session.phase) s now event steps e

-- Actions are performed one after another, each for the session as the answers so far left it, which receives the
-- answer at once: the answers received, each with what it asked for; what was written; and the worker at the end.
abbrev pub Acts : Worker → List Action → List (Event × List Action) → List ℕ → Worker → Type 0
Acts w [] answers out e = (answers ≡ []) × (out ≡ []) × (e ≡ w)
Acts w (act ∷ acts) answers out e =
    (bytes more : List ℕ)
    × (answer : Option Event)
    × (first rest : List (Event × List Action))
    × (seat : SeatState)
    × (mid : KeptSession)
    × DoneBy w act bytes answer seat
    × IsGiven w.session w.now answer first mid
    × Acts (stands w mid seat) acts rest more e
    × (answers ≡ first ++ rest)
    × (out ≡ bytes ++ more)

-- ---- up to an error

-- the session refuses the event, with the error `error`
abbrev pub IsRefused : SessionState → Event → EngineError → Type 0
IsRefused s event error = (why : SessionError) × Refuses s.phase event why × (error ≡ errors.Session why)

-- A session doesn't go on after an event: it refuses the event; or receives it, and memory runs out for what it asks
-- for.
abbrev pub DoesNotGoOn : KeptSession → ℕ → Event → EngineError → KeptSession → Type 0
DoesNotGoOn s now event error e =
    (IsRefused s.session event error × IsOver s e)
    ⊎ ((acts : List Action) × Steps s now event acts e × (error ≡ errors.Memory))

-- Why the first of the remaining actions was the last, what was written for it, and how it left the seat: it failed; or
-- it succeeded, and the session refused its answer.
abbrev pub IsCut : ShardsState → Worker → List Action → EngineError → List ℕ → SeatState → Type 0
IsCut shards w [] error out seat = ⊥
IsCut shards w (act ∷ rest) error out seat =
    FailsBy shards w act error out seat
    ⊎ ((answer : Event) × DoneBy w act out (Some answer) seat
    × (state_of w.session.session.phase ≢ states.Ended) × IsRefused w.session.session answer error)

-- memory ran out for what an answer that was received asks for
abbrev pub IsLost : List (Event × List Action) → EngineError → List ℕ → Type 0
IsLost answers error out = (answers ≢ []) × (error ≡ errors.Memory) × (out ≡ [])

-- The actions up to one were performed, and then an error came: what was written, the session, except that it is then
-- over, with what it has heard and counted and its progress, and the seat as it is then.
abbrev pub Stops : ShardsState → Worker → List Action → EngineError → List (Event × List Action) → List ℕ → KeptSession → SeatState → Type 0
Stops shards w acts error answers out e seat =
    (before rest : List Action)
    × (first last : List ℕ)
    × (mid : Worker)
    × (acts ≡ before ++ rest)
    × Acts w before answers first mid
    × (IsCut shards mid rest error last seat ⊎ (IsLost answers error last × (seat ≡ mid.seat)))
    × (out ≡ first ++ last)
    × EndsAlike mid.session e
