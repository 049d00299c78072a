-- What happens to a session, one after another, and what holds of it.
use Rattle.std.specs.Prelude.{◌≡◌, ◌≤◌, ◌⊎◌, ℕ, Bool, true, false, ◌==◌, ◌&&◌, ◌||◌, List, [], ◌∷◌, map, filter_map, Option, Some, None, if◌then◌else◌}
use Rattle.std.specs.List.{list_any}
use Rattle.table_types.specs.Tables.{Definition}
use Rattle.table_types.specs.declared.copies.Settled.{Settled}
use Rattle.table_types.specs.declared.copies.Settled.TheVariants as settles
use Rattle.peers_msg.specs.declared.control.Control.TheVariants as controls
use Rattle.peers_hello.specs.Lines.{is_same}
use Rattle.session_core.specs.declared.action.Action.{Action}
use Rattle.session_core.specs.declared.action.Action.TheVariants as actions
use Rattle.session_core.specs.declared.event.Event.{Event}
use Rattle.session_core.specs.declared.event.Event.TheVariants as events
use Rattle.session_core.specs.declared.share.Share.{Share}
use Rattle.session_core.specs.Phases.{Phase}
use Rattle.session_core.specs.Phases as phases
use Rattle.session_core.specs.Shares.{all_quiet}
use Rattle.session_core.specs.Actions.{control_text}
use Rattle.session_core.specs.Sessions.{SessionState}
use Rattle.session_core.specs.Runs.{BringsBytes, IsBegun, reopened}
use Rattle.session_core.specs.Paces.{has_passed, heartbeat_time, renewed}
use Rattle.session_core.specs.Standing.{heartbeats, is_open, is_reopen, sends}
use Rattle.session_core.specs.Manners.{Manner}
use Rattle.session_core.specs.Manners as manners
use Rattle.session_core.specs.Keeping.{KeptSession, Steps, kept_from, plain}

-- at a moment, an event, with the actions that it asked for
pub record Happening : Type 0 where
  pub now : ℕ
  pub event : Event
  pub acts : List Action

-- it happens to the session `s`, which becomes `e`
abbrev pub Takes : KeptSession → Happening → KeptSession → Type 0
Takes s one e = Steps s one.now one.event one.acts e

-- a run: what happens, in order
abbrev pub Lasts : KeptSession → List Happening → KeptSession → Type 0
Lasts s [] e = e ≡ s
Lasts s (one ∷ steps) e = (mid : KeptSession) × Takes s one mid × Lasts mid steps e

-- events one after another, all at the moment `now`, each with the actions that it asked for
abbrev pub Walks : ℕ → KeptSession → List (Event × List Action) → KeptSession → Type 0
Walks now s steps e = Lasts s (map (λ step. record { now = now; event = step.0; acts = step.1 }) steps) e

-- a session that begins as `first` does, plain, or to stay from some moment on
abbrev pub BeginsAs : SessionState → KeptSession → Type 0
BeginsAs first s = (s ≡ plain first) ⊎ ((now : ℕ) × (s ≡ kept_from now (plain first)))

-- a new session for the roster
abbrev pub Begins : List Definition → KeptSession → Type 0
Begins roster s = (first : SessionState) × IsBegun roster first × BeginsAs first s

-- the events and what they asked for
abbrev pub handed : List Happening → List (Event × List Action)
handed steps = map (λ one. (one.event, one.acts)) steps

-- ---- moments

-- it happened at the moment or later
abbrev pub IsSince : ℕ → Happening → Type 0
IsSince moment one = moment ≤ one.now

-- it happened at the moment, and sent bytes
abbrev pub SendsAt : ℕ → Happening → Type 0
SendsAt moment one = (one.now ≡ moment) × (sends one.event one.acts ≡ true)

-- when bytes were last sent: then, if it sent some, and otherwise when they were before
abbrev pub sent_by : Happening → ℕ → ℕ
sent_by one before = renewed (sends one.event one.acts) one.now before

-- all that it brings is bytes
abbrev pub HearsBytes : Happening → Type 0
HearsBytes one = BringsBytes one.event

-- ---- ticks

abbrev pub is_tick : Event → Bool
is_tick events.Tick = true
is_tick event = false

abbrev pub is_close : Action → Bool
is_close actions.Close = true
is_close action = false

abbrev pub reopens_table : Action → Option ℕ
reopens_table (actions.Reopen table) = Some table
reopens_table action = None

-- the tables in which these actions reopen the session, in order
abbrev pub reopened_in : List Action → List ℕ
reopened_in acts = filter_map reopens_table acts

-- to close, to reopen a table, to send a heartbeat, or to end a resync as partial
abbrev pub is_of_tick : Action → Bool
is_of_tick actions.Close = true
is_of_tick (actions.Reopen table) = true
is_of_tick (actions.Send bytes) = is_same bytes (control_text controls.Heartbeat) || is_same bytes (control_text controls.ResyncPartial)
is_of_tick action = false

-- a tick leaves the tables in which it reopens the session
abbrev pub leaves : ℕ → Happening → Bool
leaves table one = is_tick one.event && reopened table one.acts

-- some tick left the table
abbrev pub was_left : ℕ → List Happening → Bool
was_left table steps = list_any (leaves table) steps

abbrev pub leaves_any : Happening → Bool
leaves_any one = is_tick one.event && list_any is_reopen one.acts

-- anything but a tick that leaves a table or closes
abbrev pub IsIdle : Happening → Type 0
IsIdle one = (is_tick one.event && (list_any is_reopen one.acts || list_any is_close one.acts)) ≡ false

abbrev pub without_ticks : List Happening → List Happening
without_ticks [] = []
without_ticks (one ∷ steps) = if is_tick one.event then without_ticks steps else one ∷ without_ticks steps

-- what such a tick asks for in this phase
abbrev pub beats : Manner → Phase → ℕ → List Action
beats manners.Plain phase now = []
beats (manners.Staying p) phase now = if is_open phase then heartbeats (has_passed heartbeat_time p.sent now) else []

-- the same but for the moment at which this node last sent bytes
abbrev pub resent : ℕ → Manner → Manner
resent sent manners.Plain = manners.Plain
resent sent (manners.Staying p) = manners.Staying (record p { sent = sent })

-- so it is of a session, but for what it counted of what it asked for
abbrev pub IsSameButSent : KeptSession → KeptSession → Type 0
IsSameButSent s e = (e.session ≡ s.session) × (e.heard ≡ s.heard) × ((sent : ℕ) × (e.manner ≡ resent sent s.manner))

-- ---- acknowledgements

abbrev pub is_ack_of : ℕ → ℕ → Action → Bool
is_ack_of table number (actions.Ack other n) = other == table && n == number
is_ack_of table number action = false

abbrev pub acknowledges : ℕ → ℕ → List Action → Bool
acknowledges table number acts = list_any (is_ack_of table number) acts

abbrev pub is_bytes : Event → Bool
is_bytes (events.Bytes bytes) = true
is_bytes event = false

-- bytes were received, and an acknowledgement of `number` of `table` was passed on
abbrev pub brings_ack : ℕ → ℕ → Happening → Bool
brings_ack table number one = is_bytes one.event && acknowledges table number one.acts

abbrev pub was_acknowledged : ℕ → ℕ → List Happening → Bool
was_acknowledged table number steps = list_any (brings_ack table number) steps

-- ---- resyncs

abbrev pub is_finish : Action → Bool
is_finish (actions.Send bytes) = is_same bytes (control_text controls.ResyncFinished)
is_finish action = false

-- an open session that teaches in a resync has a table that isn't quiet
abbrev pub HasWork : Phase → Type 0
HasWork (phases.Open c) = c.teaching ≡ true → all_quiet c.shares ≡ false
HasWork phase = Unit {0}

-- ---- tables

-- an action that copies from `table`, reopens the session in it, or passes on an acknowledgement of it
abbrev pub is_about : ℕ → Action → Bool
is_about table (actions.Copy other kind) = other == table
is_about table (actions.Reopen other) = other == table
is_about table (actions.Ack other number) = other == table
is_about table action = false

-- `table` is shared, and has answered that it has nothing to teach
abbrev pub is_quiet : ℕ → List Share → Bool
is_quiet table ss = list_any (λ s. s.table == table && s.quiet) ss

abbrev pub is_all : Settled → Bool
is_all settles.All = true
is_all settled = false

abbrev pub is_settlement : ℕ → Event → Bool
is_settlement table (events.Settled other settled) = other == table && is_all settled
is_settlement table event = false

-- `table` answered that an acknowledgement settles all of its batch
abbrev pub settles_all : ℕ → Happening → Bool
settles_all table one = is_settlement table one.event
