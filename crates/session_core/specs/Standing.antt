-- A session that stays: what it does by the clock, and how it hands each event on to the machine of its session (HAProxy,
-- doc/peers-v2.0.txt, "Control Messages"; the times are this node's own).
use Rattle.std.specs.Prelude.{◌≡◌, ℕ, Bool, true, false, not, ◌==◌, ◌&&◌, ◌||◌, List, [], ◌∷◌, ◌++◌, filter, map, Some, if◌then◌else◌}
use Rattle.std.specs.List.{list_any}
use Rattle.table_types.specs.declared.copies.Settled.TheVariants as settles
use Rattle.peers_msg.specs.declared.control.Control.TheVariants as controls
use Rattle.known_state.specs.Known.{KnownState, without_names}
use Rattle.session_core.specs.declared.action.Action.{Action}
use Rattle.session_core.specs.declared.action.Action.TheVariants as actions
use Rattle.session_core.specs.declared.event.Event.{Event}
use Rattle.session_core.specs.declared.event.Event.TheVariants as events
use Rattle.session_core.specs.declared.machine.Machine.{Machine}
use Rattle.session_core.specs.declared.stay.Stay.{Stay}
use Rattle.session_core.specs.declared.pace.Task.{Task}
use Rattle.session_core.specs.declared.pace.Task.TheVariants as tasks
use Rattle.session_core.specs.declared.share.Share.{Share}
use Rattle.session_core.specs.Phases.{Phase}
use Rattle.session_core.specs.Phases as phases
use Rattle.session_core.specs.Shares.{any_out, all_quiet}
use Rattle.session_core.specs.Actions.{reopens, sends_control}
use Rattle.session_core.specs.Courses.{Course, staying, teaching_anew, ack_received, finished, table_to_ask}
use Rattle.session_core.specs.Sessions.{SessionState, Goes, seen, in_phase, going, ended, is_asked}
use Rattle.session_core.specs.Paces.{Pace, heartbeat_time, silence_time, push_time, has_passed, pace_at, renewed, is_rested, copied_in, last_number, noted, is_ahead, inferred, tables_to_leave, left_in, has_left, awaits_names}

pub record StandingState : Type 0 where
  pub session : SessionState
  pub pace : Pace

abbrev pub stood : Machine → Stay → StandingState
stood m t = record { session = seen m; pace = t.pace }

-- the session with its course changed; one that is over has none
abbrev pub changed : (Course → Course) → Phase → Phase
changed change (phases.New hello c) = phases.New hello (change c)
changed change (phases.Hello greeter bytes c) = phases.Hello greeter bytes (change c)
changed change (phases.Open c) = phases.Open (change c)
changed change phases.Ended = phases.Ended

-- the session `s` begins to stay
abbrev pub stays_from : ℕ → SessionState → StandingState
stays_from now s = record { session = in_phase s (changed staying s.phase); pace = pace_at now s.known.roster }

-- ---- what is heard and sent

abbrev pub is_open : Phase → Bool
is_open (phases.Open c) = true
is_open phase = false

abbrev pub brings_bytes : Event → Bool
brings_bytes (events.Bytes (b ∷ bs)) = true
brings_bytes event = false

abbrev pub is_send : Action → Bool
is_send (actions.Send bytes) = true
is_send action = false

abbrev pub is_lesson : Event → Bool
is_lesson (events.Written known) = true
is_lesson event = false

-- bytes are sent: a lesson was written, or an action sends some
abbrev pub sends : Event → List Action → Bool
sends event acts = is_lesson event || list_any is_send acts

-- the pace after an event that was handed on in this phase
abbrev pub paced : Phase → ℕ → Event → List Action → Pace → Pace
paced phase now event acts p =
    record p {
      sent = renewed (sends event acts) now p.sent;
      heard = renewed (brings_bytes event) now p.heard;
      opened = renewed (not (is_open phase)) now p.opened;
    }

-- the event is handed on as it is
abbrev pub HandsOn : StandingState → ℕ → Event → List Action → StandingState → Type 0
HandsOn s now event acts e = Goes s.session event acts e.session × (e.pace ≡ paced s.session.phase now event acts s.pace)

-- ---- bytes

abbrev pub shared : Phase → List Share
shared (phases.New hello c) = c.shares
shared (phases.Hello greeter bytes c) = c.shares
shared (phases.Open c) = c.shares
shared phases.Ended = []

abbrev pub is_reopen : Action → Bool
is_reopen (actions.Reopen table) = true
is_reopen action = false

abbrev pub without_reopens : List Action → List Action
without_reopens acts = filter (λ action. not (is_reopen action)) acts

-- bytes are received, and the acknowledgements in them are noted
abbrev pub Listens : StandingState → ℕ → List ℕ → List Action → StandingState → Type 0
Listens s now bytes acts e =
    Goes s.session (events.Bytes bytes) acts e.session
    × (e.pace ≡ record (paced s.session.phase now (events.Bytes bytes) acts s.pace) { progress = noted acts s.pace.progress })

-- ---- a turn

-- a resync that has no table left to teach ends
abbrev pub finished_if : Bool → Course → List Action × Course
finished_if true c = (sends_control (finished c.up_to_date) ∷ [], record c { teaching = false })
finished_if false c = ([], c)

abbrev pub finishing : Course → List Action × Course
finishing c = finished_if (c.teaching && all_quiet c.shares) c

-- What a turn of an open session does. If a resync was requested, and the last one began long enough ago, it begins one as
-- soon as no batch is outstanding, and copies none before. Otherwise it copies; but it pushes nothing right after the opening,
-- since the remote peer may still request a resync then. Nor does it copy from a table that awaits the names of another one.
abbrev pub task_at : ℕ → Pace → Course → Task
task_at now p c =
    if c.waits && is_rested p.reopened now
    then (if any_out c.shares then tasks.Rest else tasks.Begin)
    else (if (c.teaching || has_passed push_time p.opened now) && not (awaits_names (table_to_ask c) p.progress c.shares) then tasks.Copy else tasks.Rest)

-- the session is reopened in each table that wasn't left, and teaching begins
abbrev pub begun_resync : Course → List Action × Course
begun_resync c = (reopens c.shares ++ (finishing (teaching_anew c)).0, (finishing (teaching_anew c)).1)

abbrev pub Does : Task → StandingState → Course → ℕ → List Action → StandingState → Type 0
Does tasks.Copy s c now acts e = HandsOn s now events.Turn acts e
Does tasks.Rest s c now acts e = (c.due ≡ []) × (acts ≡ []) × (e ≡ s)
Does tasks.Begin s c now acts e =
    (c.due ≡ [])
    × (acts ≡ (begun_resync c).0)
    × (e.session ≡ going s.session (begun_resync c).1)
    × (e.pace ≡ record (paced s.session.phase now events.Turn acts s.pace) { reopened = Some now })

abbrev pub TakesTurn : Phase → StandingState → ℕ → List Action → StandingState → Type 0
TakesTurn (phases.Open c) s now acts e = Does (task_at now s.pace c) s c now acts e
TakesTurn phase s now acts e = HandsOn s now events.Turn acts e

-- ---- answers

-- a lesson was written: if its acknowledgement is inferred, it is passed on as if it had come
abbrev pub Writes : Phase → StandingState → ℕ → KnownState → List Action → StandingState → Type 0
Writes (phases.Open c) s now known acts e =
    Goes (going s.session (ack_received c (inferred c.asked s.pace.progress)).1) (events.Written known) [] e.session
    × (acts ≡ (ack_received c (inferred c.asked s.pace.progress)).0)
    × (e.pace ≡ paced s.session.phase now (events.Written known) acts s.pace)
Writes phase s now known acts e = ⊥

-- an acknowledgement that a table refuses is late and settles nothing, unless it is ahead
abbrev pub answer_of_refusal : Bool → ℕ → Event
answer_of_refusal true table = events.Refused table
answer_of_refusal false table = events.Settled table settles.Older

-- ---- a tick

-- the tables are left: the session no longer shares them, and its resyncs end as partial from then on
abbrev pub without_tables : List ℕ → Course → Course
without_tables tables c = record c { shares = filter (λ s. not (list_any (λ table. table == s.table) tables)) c.shares; up_to_date = false }

-- the tables to leave are left, which may end a resync
abbrev pub leaving : List ℕ → Course → List Action × Course
leaving [] c = ([], c)
leaving (table ∷ tables) c = finishing (without_tables (table ∷ tables) c)

-- The remote peer may lack these tables, and have dropped the names that their batches wrote. So no name is known from then on.
abbrev pub forgetting : List ℕ → SessionState → SessionState
forgetting [] s = s
forgetting (table ∷ tables) s = record s { known = without_names s.known }

abbrev pub any_left : List ℕ → Bool
any_left [] = false
any_left (table ∷ tables) = true

abbrev pub heartbeats : Bool → List Action
heartbeats true = sends_control controls.Heartbeat ∷ []
heartbeats false = []

-- At a tick, a session that has received nothing for too long closes. Any other open session leaves the tables `left` first, forgets all
-- names if it leaves a table, and then asks for the actions `acts`: the end of a resync, if only these tables held it up, and a heartbeat,
-- if it has sent nothing for too long.
abbrev pub TicksIn : Bool → Phase → StandingState → ℕ → List ℕ → List Action → StandingState → Type 0
TicksIn true phase s now left acts e =
    (left ≡ []) × (acts ≡ actions.Close ∷ []) × (e.session ≡ ended s.session) × (e.pace ≡ s.pace)
TicksIn false (phases.Open c) s now left acts e =
    (left ≡ tables_to_leave now s.pace.progress c.shares)
    × (acts ≡ (leaving left c).0 ++ heartbeats (has_passed heartbeat_time s.pace.sent now))
    × (e.session ≡ going (forgetting left s.session) (leaving left c).1)
    × (e.pace ≡ record s.pace { sent = renewed (list_any is_send acts) now s.pace.sent; progress = left_in left s.pace.progress })
TicksIn false phase s now left acts e = (left ≡ []) × (acts ≡ []) × (e ≡ s)

abbrev pub reopening : List ℕ → List Action
reopening tables = map (λ table. actions.Reopen table) tables

-- the tables that the tick leaves are reopened before anything else
abbrev pub TicksAs : Bool → Phase → StandingState → ℕ → List Action → StandingState → Type 0
TicksAs silent phase s now acts e =
    (left : List ℕ) × (rest : List Action) × TicksIn silent phase s now left rest e × (acts ≡ reopening left ++ rest)

-- a tick may come whenever a turn may
abbrev pub TakesTick : StandingState → ℕ → List Action → StandingState → Type 0
TakesTick s now acts e =
    (is_asked s.session.phase events.Tick ≡ true)
    × TicksAs (has_passed silence_time s.pace.heard now) s.session.phase s now acts e

-- ---- any event

-- Word that this node is up to date is handed on, unless a table was left: resyncs end as partial then, and nothing changes, as at a
-- tick of a plain session.
abbrev pub word_of : Bool → Event
word_of true = events.Tick
word_of false = events.CaughtUp

-- at `event`, at the moment `now`, the session that stays becomes `e`, and asks for the actions `acts`
abbrev pub Stands : StandingState → ℕ → Event → List Action → StandingState → Type 0
Stands s now (events.Bytes bytes) acts e = Listens s now bytes acts e
Stands s now events.Turn acts e = TakesTurn s.session.phase s now acts e
Stands s now (events.Copied table batch) acts e =
    Goes s.session (events.Copied table batch) acts e.session
    × (e.pace ≡ record (paced s.session.phase now (events.Copied table batch) acts s.pace) { progress = copied_in table (last_number batch) now s.pace.progress })
Stands s now (events.Written known) acts e = Writes s.session.phase s now known acts e
Stands s now (events.Refused table) acts e = HandsOn s now (answer_of_refusal (is_ahead table s.pace.progress) table) acts e
Stands s now events.Tick acts e = TakesTick s now acts e
Stands s now events.CaughtUp acts e = HandsOn s now (word_of (has_left s.pace.progress)) acts e
Stands s now event acts e = HandsOn s now event acts e
