-- A turn of a session.
use Rattle.std.specs.Prelude.{◌≡◌, ◌≢◌, ◌⊎◌, ℕ, Bool, true, false, List, [], ◌∷◌, ◌++◌, Option, Some, None}
use Rattle.std.specs.List.{list_all}
use Rattle.table_types.specs.declared.copies.CopyKind.TheVariants as copies
use Rattle.session_core.specs.declared.action.Action.{Action}
use Rattle.session_core.specs.declared.action.Action.TheVariants as actions
use Rattle.session_core.specs.declared.event.Event.{Event}
use Rattle.session_core.specs.declared.event.Event.TheVariants as events
use Rattle.session_core.specs.declared.state.State.{State}
use Rattle.session_core.specs.declared.state.State.TheVariants as states
use Rattle.session_core.specs.Keeping.{KeptSession, Steps}
use Rattle.session_core.specs.Happenings.{Walks}
use Rattle.session_core.specs.Sessions.{state_of}
use Rattle.session_core.specs.Hearing.{asked_in}
use Rattle.session_core.specs.Phases.{Phase}
use Rattle.session_core.specs.Phases as phases
use Rattle.table_shards.specs.Receipts.{SeatState}
use Rattle.table_shards.specs.Rounds.{ShardsState}
use Rattle.peers_engine.specs.declared.errors.EngineError.{EngineError}
use Rattle.peers_engine.specs.Reading.{IsRead, IsUnread}
use Rattle.peers_engine.specs.Acting.{Acts, EndsAlike, IsOver, IsRefused, Stops, Worker, stands}

-- the event with which a turn begins: it opens a new session, and lets any other teach
abbrev pub first_event : State → Event
first_event states.New = events.Opened
first_event state = events.Turn

-- ---- how the session moved

-- it moved by events at this moment, of which this is the first
abbrev pub Moves : ℕ → Event → KeptSession → KeptSession → Type 0
Moves now event s e = (acts : List Action) × (steps : List (Event × List Action)) × Walks now s ((event, acts) ∷ steps) e

-- so it moved in a turn
abbrev pub Turns : ℕ → KeptSession → KeptSession → Type 0
Turns now s e = Moves now (first_event (state_of s.session.phase)) s e

-- it moved by such events or by none, and was then ended
abbrev pub BreaksAt : ℕ → Event → KeptSession → KeptSession → Type 0
BreaksAt now event s e = IsOver s e ⊎ ((mid : KeptSession) × Moves now event s mid × IsOver mid e)

abbrev pub Breaks : ℕ → KeptSession → KeptSession → Type 0
Breaks now s e = BreaksAt now (first_event (state_of s.session.phase)) s e

-- ---- what was done

-- A session receives an event, and what it asks for is performed in order: what the event asked for, and then what the
-- answers did.
abbrev pub Reacts : Worker → Event → List ℕ → Worker → Type 0
Reacts w event out e =
    (acts : List Action)
    × (answers : List (Event × List Action))
    × (mid : KeptSession)
    × Steps w.session w.now event acts mid
    × Acts (stands w mid w.seat) (acts ++ asked_in answers) answers out e

-- the session refuses the event; or receives it, and what it asks for is performed up to an error
abbrev pub Halts : ShardsState → Worker → Event → EngineError → List ℕ → KeptSession → SeatState → Type 0
Halts shards w event error out e seat =
    (IsRefused w.session.session event error × (out ≡ []) × EndsAlike w.session e × (seat ≡ w.seat))
    ⊎ ((acts : List Action)
    × (answers : List (Event × List Action))
    × (mid : KeptSession)
    × Steps w.session w.now event acts mid
    × Stops shards (stands w mid w.seat) (acts ++ asked_in answers) error answers out e seat)

-- ---- a whole turn

-- a copy of this node's own rows
abbrev pub is_push : Action → Bool
is_push (actions.Copy table copies.Push) = true
is_push act = false

-- an event leaves nothing to do: the session asks for nothing, or only for pushes, and these lead to nothing
abbrev pub Idles : Worker → Event → Worker → Type 0
Idles w event e =
    (acts : List Action)
    × (answers : List (Event × List Action))
    × (mid : KeptSession)
    × Steps w.session w.now event acts mid
    × (list_all is_push acts ≡ true)
    × Acts (stands w mid w.seat) acts answers [] e
    × (asked_in answers ≡ [])

-- an event leaves something to do: the session asks for more than pushes, or these lead to something
abbrev pub Works : Worker → Event → List ℕ → Worker → Type 0
Works w event out e =
    (acts : List Action)
    × (answers : List (Event × List Action))
    × (mid : KeptSession)
    × Steps w.session w.now event acts mid
    × ((list_all is_push acts ≡ false) ⊎ (asked_in answers ≢ []))
    × Acts (stands w mid w.seat) (acts ++ asked_in answers) answers out e

-- The session receives an event, if there is one; and the same up to an error, which may come before the event.
abbrev pub Receives : Worker → Option Event → List ℕ → Worker → Type 0
Receives w None out e = (out ≡ []) × (e ≡ w)
Receives w (Some event) out e = Reacts w event out e

abbrev pub HaltsAt : ShardsState → Worker → Option Event → EngineError → List ℕ → KeptSession → SeatState → Type 0
HaltsAt shards w None error out e seat = IsUnread error × (out ≡ []) × EndsAlike w.session e × (seat ≡ w.seat)
HaltsAt shards w (Some event) error out e seat = Halts shards w event error out e seat

-- A turn gives the session its first event and leaves the reader alone; or that event leaves nothing to do, and the
-- turn then reads and gives the session the event of that read, if any.
abbrev pub TakesTurn : Type 0 → Worker → Option Event → List ℕ → Worker → Type 0
TakesTurn untouched w received out e =
    (untouched × (received ≡ None) × Reacts w (first_event (state_of w.session.session.phase)) out e)
    ⊎ ((mid : Worker) × Idles w (first_event (state_of w.session.session.phase)) mid × Receives mid received out e)

-- The turn's first event leaves something to do, and the turn leaves the reader alone; or it leaves nothing to do, and the turn reads
-- bytes or the end.
abbrev pub WorksInTurn : Type 0 → Type 0 → Worker → List ℕ → List ℕ → Worker → Type 0
WorksInTurn untouched at_end w read out e =
    (untouched × (read ≡ []) × Works w (first_event (state_of w.session.session.phase)) out e)
    ⊎ ((mid : Worker) × (event : Event) × Idles w (first_event (state_of w.session.session.phase)) mid
    × IsRead at_end (Some event) read × Reacts mid event out e)

-- a turn, up to an error
abbrev pub StopsTurn : ShardsState → Type 0 → Worker → Option Event → EngineError → List ℕ → KeptSession → SeatState → Type 0
StopsTurn shards untouched w received error out e seat =
    (untouched × (received ≡ None) × Halts shards w (first_event (state_of w.session.session.phase)) error out e seat)
    ⊎ ((mid : Worker) × Idles w (first_event (state_of w.session.session.phase)) mid × HaltsAt shards mid received error out e seat)

-- ---- between turns

-- no answer is due
abbrev pub HasNothingDue : Phase → Type 0
HasNothingDue (phases.New hello c) = c.due ≡ []
HasNothingDue (phases.Hello greeter bytes c) = c.due ≡ []
HasNothingDue (phases.Open c) = c.due ≡ []
HasNothingDue phases.Ended = Unit {0}

-- an event that the node gives a session by itself: a turn, a tick, a request for a resync, or word that the node is up to date
abbrev pub is_own : Event → Bool
is_own events.Turn = true
is_own events.Tick = true
is_own events.Ask = true
is_own events.CaughtUp = true
is_own event = false
