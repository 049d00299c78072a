-- Ticks that leave no table and don't close change nothing that another step reads.
use Rattle.std.proofs.Common.{◌≡◌, ℕ, Bool, true, false, List, [], ◌∷◌, refl, sym, ap, ◌∙◌, if◌then◌else◌}
use Rattle.std.specs.List.{list_any}
use Rattle.std.proofs.lemmas.Bool.{false≢true}
use Rattle.known_state.specs.Known.{KnownState}
use Rattle.session_core.specs.declared.action.Action.{Action}
use Rattle.session_core.specs.declared.event.Event.{Event}
use Rattle.session_core.specs.declared.event.Event.TheVariants as events
use Rattle.session_core.specs.declared.pace.Task.{Task}
use Rattle.session_core.specs.declared.pace.Task.TheVariants as tasks
use Rattle.session_core.specs.Phases.{Phase}
use Rattle.session_core.specs.Phases as phases
use Rattle.session_core.specs.Courses.{Course}
use Rattle.session_core.specs.Sessions.{SessionState, in_phase}
use Rattle.session_core.specs.Paces.{Pace, has_passed, heartbeat_time, left_in, renewed}
use Rattle.session_core.specs.declared.progress.Progress.{Progress}
use Rattle.session_core.specs.Standing.{StandingState, sends, is_send, HandsOn, Does, task_at, TakesTurn, Writes, Stands, TicksIn, is_open, heartbeats}
use Rattle.session_core.specs.Happenings.{is_close, is_tick}
use Rattle.session_core.proofs.MachineRuns.{Ticks}

-- the same but for the moment at which this node last sent bytes
abbrev pub resent : ℕ → StandingState → StandingState
resent sent s = record { session = s.session; pace = record s.pace { sent = sent } }

abbrev pub IsSameButSent : StandingState → StandingState → Type 0
IsSameButSent s e = (sent : ℕ) × (e ≡ resent sent s)

abbrev pub beats : Phase → StandingState → ℕ → List Action
beats phase s now = if is_open phase then heartbeats (has_passed heartbeat_time s.pace.sent now) else []

abbrev state_with : SessionState → Pace → StandingState
state_with s p = record { session = s; pace = p }

both : (a b : SessionState) (p q : Pace) → a ≡ b → p ≡ q → state_with a p ≡ state_with b q
both a b p q first second = ap (λ (x : SessionState). state_with x p) first ∙ ap (λ (x : Pace). state_with b x) second

none_left : (ps : List Progress) → left_in [] ps ≡ ps
none_left [] = refl
none_left (p ∷ ps) = ap (λ (qs : List Progress). p ∷ qs) (none_left ps)

-- ---- one tick

idle_in : (silent : Bool) (phase : Phase) (s e : StandingState) (now : ℕ) (acts : List Action) → s.session.phase ≡ phase → TicksIn silent phase s now [] acts e → list_any is_close acts ≡ false → IsSameButSent s e × (acts ≡ beats phase s now)
idle_in true phase s e now acts stands (none, is, session, pace) stays_open = absurd (false≢true (sym stays_open ∙ ap (λ (x : List Action). list_any is_close x) is))
idle_in false (phases.Open c) s e now acts stands (none, is, session, pace) stays_open =
    let same : e.session ≡ s.session = session ∙ ap (λ (x : Phase). in_phase s.session x) (sym stands) in
    let sent : ℕ = renewed (list_any is_send acts) now s.pace.sent in
    let kept : e.pace ≡ record s.pace { sent = sent } = pace ∙ ap (λ (ps : List Progress). record s.pace { sent = sent; progress = ps }) (none_left s.pace.progress) in
    ((sent, both e.session s.session e.pace (record s.pace { sent = sent }) same kept), is)
idle_in false (phases.New hello c) s e now acts stands (none, is, same) stays_open = ((s.pace.sent, same), is)
idle_in false (phases.Hello greeter bytes c) s e now acts stands (none, is, same) stays_open = ((s.pace.sent, same), is)
idle_in false phases.Ended s e now acts stands (none, is, same) stays_open = ((s.pace.sent, same), is)

pub idle_tick : (s e : StandingState) (now : ℕ) (acts : List Action) → Ticks s now [] acts e → list_any is_close acts ≡ false → IsSameButSent s e × (acts ≡ beats s.session.phase s now)
idle_tick s e now acts (asked, ticks) stays_open = idle_in _ s.session.phase s e now acts refl ticks stays_open

-- ---- events don't read when bytes were last sent

abbrev pub Again : StandingState → ℕ → Event → List Action → StandingState → ℕ → Type 0
Again s now event acts e x = (y : ℕ) × Stands (resent x s) now event acts (resent y e)

hands_again : (s e : StandingState) (now x : ℕ) (event : Event) (acts : List Action) → HandsOn s now event acts e → (y : ℕ) × HandsOn (resent x s) now event acts (resent y e)
hands_again s e now x event acts (goes, pace) =
    let y : ℕ = renewed (sends event acts) now x in
    (y, (goes, ap (λ (p : Pace). (resent y (state_with e.session p)).pace) pace))

does_again : (task : Task) (s e : StandingState) (c : Course) (now x : ℕ) (acts : List Action) → Does task s c now acts e → (y : ℕ) × Does task (resent x s) c now acts (resent y e)
does_again tasks.Copy s e c now x acts hands = hands_again s e now x events.Turn acts hands
does_again tasks.Rest s e c now x acts (due, none, same) = (x, (due, none, ap (resent x) same))
does_again tasks.Begin s e c now x acts (due, is, session, pace) =
    let y : ℕ = renewed (sends events.Turn acts) now x in
    (y, (due, is, session, ap (λ (p : Pace). (resent y (state_with e.session p)).pace) pace))

turn_again : (phase : Phase) (s e : StandingState) (now x : ℕ) (acts : List Action) → TakesTurn phase s now acts e → (y : ℕ) × TakesTurn phase (resent x s) now acts (resent y e)
turn_again (phases.Open c) s e now x acts does = does_again (task_at now s.pace c) s e c now x acts does
turn_again (phases.New hello c) s e now x acts hands = hands_again s e now x events.Turn acts hands
turn_again (phases.Hello greeter bytes c) s e now x acts hands = hands_again s e now x events.Turn acts hands
turn_again phases.Ended s e now x acts hands = hands_again s e now x events.Turn acts hands

writes_again : (phase : Phase) (s e : StandingState) (now x : ℕ) (known : KnownState) (acts : List Action) → Writes phase s now known acts e → (y : ℕ) × Writes phase (resent x s) now known acts (resent y e)
writes_again (phases.Open c) s e now x known acts (goes, is, pace) =
    let y : ℕ = renewed (sends (events.Written known) acts) now x in
    (y, (goes, is, ap (λ (p : Pace). (resent y (state_with e.session p)).pace) pace))
writes_again (phases.New hello c) s e now x known acts writes = absurd writes
writes_again (phases.Hello greeter bytes c) s e now x known acts writes = absurd writes
writes_again phases.Ended s e now x known acts writes = absurd writes

pub stands_again : (event : Event) (s e : StandingState) (now x : ℕ) (acts : List Action) → is_tick event ≡ false → Stands s now event acts e → Again s now event acts e x
stands_again (events.Bytes bytes) s e now x acts other (goes, pace) =
    let y : ℕ = renewed (sends (events.Bytes bytes) acts) now x in
    (y, (goes, ap (λ (p : Pace). (resent y (state_with e.session p)).pace) pace))
stands_again events.Turn s e now x acts other turns = turn_again s.session.phase s e now x acts turns
stands_again (events.Copied table batch) s e now x acts other (goes, pace) =
    let y : ℕ = renewed (sends (events.Copied table batch) acts) now x in
    (y, (goes, ap (λ (p : Pace). (resent y (state_with e.session p)).pace) pace))
stands_again (events.Written known) s e now x acts other writes = writes_again s.session.phase s e now x known acts writes
stands_again (events.Refused table) s e now x acts other hands = hands_again s e now x _ acts hands
stands_again events.Opened s e now x acts other hands = hands_again s e now x events.Opened acts hands
stands_again events.Ask s e now x acts other hands = hands_again s e now x events.Ask acts hands
stands_again events.CaughtUp s e now x acts other hands = hands_again s e now x _ acts hands
stands_again events.End s e now x acts other hands = hands_again s e now x events.End acts hands
stands_again events.ReadFault s e now x acts other hands = hands_again s e now x events.ReadFault acts hands
stands_again events.WriteFault s e now x acts other hands = hands_again s e now x events.WriteFault acts hands
stands_again (events.Nothing table) s e now x acts other hands = hands_again s e now x (events.Nothing table) acts hands
stands_again (events.Settled table settled) s e now x acts other hands = hands_again s e now x (events.Settled table settled) acts hands
stands_again events.Tick s e now x acts other stands = absurd (false≢true (sym other))
