-- A session that stays sends resync finished only if no tick left a table.
use Rattle.std.proofs.Common.{◌≡◌, ℕ, Bool, true, false, ◌&&◌, ◌||◌, List, [], ◌∷◌, ◌++◌, Some, None, Option, Ok, Err, Result, refl, sym, ap, ◌∙◌, subst, inl, inr}
use Rattle.std.specs.Prelude.{drop}
use Rattle.std.specs.List.{list_any}
use Rattle.std.proofs.lemmas.Bool.{false≢true}
use Rattle.std.proofs.lemmas.List.Folds.{list_any-append}
use Rattle.table_types.specs.Tables.{Definition}
use Rattle.table_types.specs.declared.copies.Settled.{Settled}
use Rattle.table_types.specs.declared.copies.Settled.TheVariants as settles
use Rattle.table_types.specs.declared.version.Version.{Version}
use Rattle.peers_msg.specs.declared.control.Control.{Control}
use Rattle.peers_msg.specs.declared.control.Control.TheVariants as controls
use Rattle.peers_hello.specs.declared.hello.Hello.{Hello}
use Rattle.peers_hello.specs.declared.hello.Answer.{Answer}
use Rattle.peers_hello.specs.declared.hello.Answer.TheVariants as answers
use Rattle.peers_hello.specs.declared.status.Status.{Status}
use Rattle.peers_hello.specs.declared.status.Status.TheVariants as statuses
use Rattle.peers_hello.specs.Hellos.{answer_of}
use Rattle.peers_hello.specs.Statuses.{status_of}
use Rattle.known_state.specs.Known.{KnownState}
use Rattle.learner.specs.declared.taken.Taken.{Taken}
use Rattle.learner.specs.declared.taken.Taken.TheVariants as taken
use Rattle.session_core.specs.declared.action.Action.{Action}
use Rattle.session_core.specs.declared.action.Action.TheVariants as actions
use Rattle.session_core.specs.declared.event.Event.{Event}
use Rattle.session_core.specs.declared.event.Event.TheVariants as events
use Rattle.session_core.specs.declared.halt.Halt.{Halt}
use Rattle.session_core.specs.declared.halt.Halt.TheVariants as halts
use Rattle.session_core.specs.declared.pace.Task.{Task}
use Rattle.session_core.specs.declared.pace.Task.TheVariants as tasks
use Rattle.session_core.specs.declared.phase.Greeter.{Greeter}
use Rattle.session_core.specs.declared.phase.Greeter.TheVariants as greeters
use Rattle.session_core.specs.Phases.{Phase}
use Rattle.session_core.specs.Phases as phases
use Rattle.session_core.specs.Acks.{ack_of}
use Rattle.session_core.specs.Shares.{all_quiet, is_out, out_set, quiet_set}
use Rattle.peers_hello.specs.Lines.{is_same}
use Rattle.session_core.specs.Actions.{control_text, sends_control, status_text, reopens}
use Rattle.session_core.specs.Courses.{Course, course_fed, is_held, teaching_anew, requested, acknowledged, ack_received, said, message_received, AreReceived, ReceivesAll, table_to_ask, finished}
use Rattle.session_core.specs.Sessions.{SessionState, going, Concludes, ReceivesBytes, first_word, IsWelcomed, Connects, Accepts, Greets, GoesIn, GoesNew, GoesHello, GoesOpen, Turns, HasNothing, FinishesResync, StartsPendingResync, Settles, opening, speaking}
use Rattle.session_core.specs.Runs.{is_end, ends_resync}
use Rattle.session_core.specs.Paces.{Pace, has_left, inferred, is_ahead, last_number}
use Rattle.session_core.specs.Standing.{StandingState, finished_if, finishing, begun_resync, Does, task_at, TakesTurn, Writes, Stands, without_tables, leaving, any_left, heartbeats, TicksIn, word_of, reopening, is_reopen, answer_of_refusal}
use Rattle.session_core.specs.Happenings.{Happening, is_tick, leaves_any, is_finish}
use Rattle.session_core.proofs.MachineRuns.{Happens, Lasts, BeginsToStay}
use Rattle.session_core.proofs.TickGives.{any_reopened, none_reopening, tick_or_not}
use Rattle.session_core.proofs.EndLemmas.{plain_reopens}
use Rattle.session_core.proofs.LeftNoted.{copied_left, left_noted, noted_left}
use Rattle.session_core.proofs.StandingEnds.{end_ack, endless_in, endless_refusal, endless_word}

-- ---- whether this node is up to date

abbrev IsUp : Bool → Phase → Type 0
IsUp b (phases.New hello c) = c.up_to_date ≡ b
IsUp b (phases.Hello greeter bytes c) = c.up_to_date ≡ b
IsUp b (phases.Open c) = c.up_to_date ≡ b
IsUp b phases.Ended = Unit {0}

up_at : (b : Bool) (e x : SessionState) → e ≡ x → IsUp b x.phase → IsUp b e.phase
up_at b e x is up = subst (λ (y : SessionState). IsUp b y.phase) (sym is) up

up_requested : (q : Bool) (c : Course) → (requested q c).1.up_to_date ≡ c.up_to_date
up_requested true c = refl
up_requested false c = refl

up_said : (c : Course) (control : Control) → (said c control).1.up_to_date ≡ c.up_to_date
up_said c controls.ResyncRequest = up_requested (is_held c.stays c.shares) c
up_said c controls.ResyncFinished = refl
up_said c controls.ResyncPartial = refl
up_said c controls.ResyncConfirmed = refl
up_said c controls.Heartbeat = refl

up_acknowledged : (q : Bool) (c : Course) (table number : ℕ) → (acknowledged q c table number).1.up_to_date ≡ c.up_to_date
up_acknowledged true c table number = refl
up_acknowledged false c table number = refl

up_ack : (c : Course) (ack : Option (ℕ × ℕ)) → (ack_received c ack).1.up_to_date ≡ c.up_to_date
up_ack c (Some (table, number)) = up_acknowledged (is_out table c.shares) c table number
up_ack c None = refl

up_received : (c : Course) (t : Taken) → (message_received c t).1.up_to_date ≡ c.up_to_date
up_received c (taken.Row u) = refl
up_received c taken.Passed = refl
up_received c (taken.Said control) = up_said c control
up_received c (taken.Acked table number) = up_ack c (ack_of c.intake.roster (taken.Acked table number))
up_received c (taken.Failed kind) = refl

up_all : (c e : Course) (ts : List Taken) (acts : List Action) → AreReceived c ts acts e → e.up_to_date ≡ c.up_to_date
up_all c e [] acts (none, here) = ap (λ (x : Course). x.up_to_date) here
up_all c e (t ∷ ts) acts (mid, rest, receives, all, later) =
    up_all (message_received mid t).1 e ts rest later ∙ (up_received mid t ∙ ap (λ (x : Course). x.up_to_date) receives.2)

up_concluded : (b : Bool) (s : SessionState) (c mid : Course) (result : Result (Unit {0}) Halt) (first given acts : List Action) (e : SessionState) → c.up_to_date ≡ b → ReceivesAll c result given mid → Concludes s mid result (first ++ given) acts e → IsUp b e.phase
up_concluded b s c mid (Ok u) first given acts e up (ts, are, waits) (is, ends) = up_at b e _ ends (up_all c mid ts given are ∙ up)
up_concluded b s c mid (Err halts.Failed) first given acts e up receives (is, ends) = up_at b e _ ends tt
up_concluded b s c mid (Err (halts.Fault fault)) first given acts e up receives (is, ends) = up_at b e _ ends tt
up_concluded b s c mid (Err halts.Memory) first given acts e up receives concludes = absurd concludes

up_bytes : (b : Bool) (s : SessionState) (c : Course) (first acts : List Action) (e : SessionState) → c.up_to_date ≡ b → ReceivesBytes s c first acts e → IsUp b e.phase
up_bytes b s c first acts e up (result, given, mid, receives, concludes) = up_concluded b s c mid result first given acts e up receives concludes

-- ---- events of the session

-- any event but word that this node is up to date
abbrev IsNoWord : Event → Type 0
IsNoWord events.CaughtUp = ⊥
IsNoWord event = Unit {0}

up_new : (b : Bool) (s : SessionState) (hello : Hello) (c : Course) (event : Event) (acts : List Action) (e : SessionState) → c.up_to_date ≡ b → IsNoWord event → GoesNew s hello c event acts e → IsUp b e.phase
up_new b s hello c events.Opened acts e up other (is, ends) = up_at b e _ ends up
up_new b s hello c events.Turn acts e up other (is, ends) = up_at b e _ ends up
up_new b s hello c events.Tick acts e up other (is, ends) = up_at b e _ ends up
up_new b s hello c events.Ask acts e up other (is, ends) = up_at b e _ ends up
up_new b s hello c events.CaughtUp acts e up other goes = absurd other
up_new b s hello c events.End acts e up other (is, ends) = up_at b e _ ends tt
up_new b s hello c events.ReadFault acts e up other (is, ends) = up_at b e _ ends tt
up_new b s hello c events.WriteFault acts e up other (is, ends) = up_at b e _ ends tt
up_new b s hello c (events.Bytes bytes) acts e up other goes = absurd goes
up_new b s hello c (events.Copied table batch) acts e up other goes = absurd goes
up_new b s hello c (events.Nothing table) acts e up other goes = absurd goes
up_new b s hello c (events.Written known) acts e up other goes = absurd goes
up_new b s hello c (events.Settled table settled) acts e up other goes = absurd goes
up_new b s hello c (events.Refused table) acts e up other goes = absurd goes

up_welcomed : (b q : Bool) (version : Version) (code : ℕ) (s : SessionState) (c : Course) (rest : List ℕ) (acts : List Action) (e : SessionState) → c.up_to_date ≡ b → IsWelcomed q version code s c rest acts e → IsUp b e.phase
up_welcomed b true version code s c rest acts e up receives = up_bytes b (speaking version s) (course_fed c rest) (sends_control (first_word c.stays) ∷ opening version c.shares) acts e up receives
up_welcomed b false version code s c rest acts e up (is, ends) = up_at b e _ ends tt

up_connects : (b : Bool) (version : Version) (status : Status) (s : SessionState) (bytes : List ℕ) (c : Course) (acts : List Action) (e : SessionState) → c.up_to_date ≡ b → Connects version status s bytes c acts e → IsUp b e.phase
up_connects b version statuses.More s bytes c acts e up (is, ends) = up_at b e _ ends up
up_connects b version (statuses.Code code used) s bytes c acts e up goes = up_welcomed b _ version code s c _ acts e up goes
up_connects b version (statuses.Other used) s bytes c acts e up (is, ends) = up_at b e _ ends tt

up_accepts : (b : Bool) (answer : Answer) (s : SessionState) (greeter : Greeter) (bytes : List ℕ) (c : Course) (acts : List Action) (e : SessionState) → c.up_to_date ≡ b → Accepts answer s greeter bytes c acts e → IsUp b e.phase
up_accepts b answers.More s greeter bytes c acts e up (is, ends) = up_at b e _ ends up
up_accepts b (answers.Accepted name version used) s greeter bytes c acts e up goes = up_bytes b (speaking version s) (course_fed c (drop used bytes)) (actions.Send (status_text 200) ∷ opening version c.shares) acts e up goes
up_accepts b (answers.Refused code used) s greeter bytes c acts e up (is, ends) = up_at b e _ ends tt

up_greets : (b : Bool) (s : SessionState) (greeter : Greeter) (bytes : List ℕ) (c : Course) (acts : List Action) (e : SessionState) → c.up_to_date ≡ b → Greets s greeter bytes c acts e → IsUp b e.phase
up_greets b s (greeters.Connects version) bytes c acts e up goes = up_connects b version (status_of bytes) s bytes c acts e up goes
up_greets b s (greeters.Accepts own peers) bytes c acts e up goes = up_accepts b (answer_of own peers bytes) s (greeters.Accepts own peers) bytes c acts e up goes

up_hello : (b : Bool) (s : SessionState) (greeter : Greeter) (bytes : List ℕ) (c : Course) (event : Event) (acts : List Action) (e : SessionState) → c.up_to_date ≡ b → IsNoWord event → GoesHello s greeter bytes c event acts e → IsUp b e.phase
up_hello b s greeter bytes c (events.Bytes piece) acts e up other goes = up_greets b s greeter (bytes ++ piece) c acts e up goes
up_hello b s greeter bytes c events.Turn acts e up other (is, ends) = up_at b e _ ends up
up_hello b s greeter bytes c events.Tick acts e up other (is, ends) = up_at b e _ ends up
up_hello b s greeter bytes c events.Ask acts e up other (is, ends) = up_at b e _ ends up
up_hello b s greeter bytes c events.CaughtUp acts e up other goes = absurd other
up_hello b s greeter bytes c events.End acts e up other (is, ends) = up_at b e _ ends tt
up_hello b s greeter bytes c events.ReadFault acts e up other (is, ends) = up_at b e _ ends tt
up_hello b s greeter bytes c events.WriteFault acts e up other (is, ends) = up_at b e _ ends tt
up_hello b s greeter bytes c events.Opened acts e up other goes = absurd goes
up_hello b s greeter bytes c (events.Copied table batch) acts e up other goes = absurd goes
up_hello b s greeter bytes c (events.Nothing table) acts e up other goes = absurd goes
up_hello b s greeter bytes c (events.Written known) acts e up other goes = absurd goes
up_hello b s greeter bytes c (events.Settled table settled) acts e up other goes = absurd goes
up_hello b s greeter bytes c (events.Refused table) acts e up other goes = absurd goes

up_turns : (b : Bool) (asked : Option ℕ) (s : SessionState) (c : Course) (acts : List Action) (e : SessionState) → c.up_to_date ≡ b → Turns asked s c acts e → IsUp b e.phase
up_turns b None s c acts e up (is, ends) = up_at b e _ ends up
up_turns b (Some table) s c acts e up (is, ends) = up_at b e _ ends up

up_finishes : (b q : Bool) (s : SessionState) (c : Course) (acts : List Action) (e : SessionState) → c.up_to_date ≡ b → FinishesResync q s c acts e → IsUp b e.phase
up_finishes b true s c acts e up (is, ends) = up_at b e _ ends up
up_finishes b false s c acts e up (is, ends) = up_at b e _ ends up

up_nothing : (b q : Bool) (s : SessionState) (c : Course) (table : ℕ) (acts : List Action) (e : SessionState) → c.up_to_date ≡ b → HasNothing q s c table acts e → IsUp b e.phase
up_nothing b true s c table acts e up finishes = up_finishes b (all_quiet (quiet_set table c.shares)) s (record c { shares = quiet_set table c.shares }) acts e up finishes
up_nothing b false s c table acts e up (is, ends) = up_at b e _ ends up

up_starts : (b q : Bool) (s : SessionState) (c : Course) (acts : List Action) (e : SessionState) → c.up_to_date ≡ b → StartsPendingResync q s c acts e → IsUp b e.phase
up_starts b true s c acts e up (is, ends) = up_at b e _ ends up
up_starts b false s c acts e up (is, ends) = up_at b e _ ends up

up_settles : (b : Bool) (settled : Settled) (s : SessionState) (c : Course) (table : ℕ) (acts : List Action) (e : SessionState) → c.up_to_date ≡ b → Settles settled s c table acts e → IsUp b e.phase
up_settles b settles.All s c table acts e up starts = up_starts b _ s (record c { shares = out_set table false c.shares }) acts e up starts
up_settles b settles.Some s c table acts e up (is, ends) = up_at b e _ ends up
up_settles b settles.Older s c table acts e up (is, ends) = up_at b e _ ends up

up_answered : (b : Bool) (c mid : Course) → mid ≡ record c { due = mid.due } → c.up_to_date ≡ b → mid.up_to_date ≡ b
up_answered b c mid is up = ap (λ (x : Course). x.up_to_date) is ∙ up

up_open : (b : Bool) (s : SessionState) (c : Course) (event : Event) (acts : List Action) (e : SessionState) → c.up_to_date ≡ b → IsNoWord event → GoesOpen s c event acts e → IsUp b e.phase
up_open b s c events.Turn acts e up other (due, turns) = up_turns b (table_to_ask c) s c acts e up turns
up_open b s c events.Tick acts e up other (due, (is, ends)) = up_at b e _ ends up
up_open b s c events.Ask acts e up other (due, (is, ends)) = up_at b e _ ends up
up_open b s c events.CaughtUp acts e up other goes = absurd other
up_open b s c (events.Bytes bytes) acts e up other (due, receives) = up_bytes b s (course_fed c bytes) [] acts e up receives
up_open b s c (events.Copied table batch) acts e up other (mid, answered, (is, ends)) = up_at b e _ ends (up_answered b c mid answered.1 up)
up_open b s c (events.Nothing table) acts e up other (mid, answered, nothing) = up_nothing b mid.teaching s mid table acts e (up_answered b c mid answered.1 up) nothing
up_open b s c (events.Written known) acts e up other (mid, answered, is, ends) = up_at b e _ ends (up_answered b c mid answered.1 up)
up_open b s c (events.Settled table settled) acts e up other (mid, answered, settles) = up_settles b settled s mid table acts e (up_answered b c mid answered.1 up) settles
up_open b s c (events.Refused table) acts e up other (mid, answered, is, ends) = up_at b e _ ends tt
up_open b s c events.End acts e up other (is, ends) = up_at b e _ ends tt
up_open b s c events.ReadFault acts e up other (is, ends) = up_at b e _ ends tt
up_open b s c events.WriteFault acts e up other (is, ends) = up_at b e _ ends tt
up_open b s c events.Opened acts e up other goes = absurd goes

up_in : (b : Bool) (phase : Phase) (s : SessionState) (event : Event) (acts : List Action) (e : SessionState) → IsUp b phase → IsNoWord event → GoesIn phase s event acts e → IsUp b e.phase
up_in b (phases.New hello c) s event acts e up other goes = up_new b s hello c event acts e up other goes
up_in b (phases.Hello greeter bytes c) s event acts e up other goes = up_hello b s greeter bytes c event acts e up other goes
up_in b (phases.Open c) s event acts e up other goes = up_open b s c event acts e up other goes
up_in b phases.Ended s event acts e up other goes = absurd goes

-- ---- steps of the session that stays

up_finished : (b q : Bool) (c : Course) → c.up_to_date ≡ b → (finished_if q c).1.up_to_date ≡ b
up_finished b true c up = up
up_finished b false c up = up

up_finishing : (b : Bool) (c : Course) → c.up_to_date ≡ b → (finishing c).1.up_to_date ≡ b
up_finishing b c up = up_finished b (c.teaching && all_quiet c.shares) c up

up_does : (b : Bool) (task : Task) (s e : StandingState) (c : Course) (now : ℕ) (acts : List Action) → s.session.phase ≡ phases.Open c → IsUp b s.session.phase → Does task s c now acts e → IsUp b e.session.phase
up_does b tasks.Copy s e c now acts stands up (goes, paces) = up_in b s.session.phase s.session events.Turn acts e.session up tt goes
up_does b tasks.Rest s e c now acts stands up (due, is, same) = subst (λ (x : StandingState). IsUp b x.session.phase) (sym same) up
up_does b tasks.Begin s e c now acts stands up (due, is, session, paces) = up_at b e.session _ session (up_finishing b (teaching_anew c) (subst (IsUp b) stands up))

up_turn : (b : Bool) (phase : Phase) (s e : StandingState) (now : ℕ) (acts : List Action) → s.session.phase ≡ phase → IsUp b s.session.phase → TakesTurn phase s now acts e → IsUp b e.session.phase
up_turn b (phases.Open c) s e now acts stands up does = up_does b (task_at now s.pace c) s e c now acts stands up does
up_turn b (phases.New hello c) s e now acts stands up (goes, paces) = up_in b s.session.phase s.session events.Turn acts e.session up tt goes
up_turn b (phases.Hello greeter bytes c) s e now acts stands up (goes, paces) = up_in b s.session.phase s.session events.Turn acts e.session up tt goes
up_turn b phases.Ended s e now acts stands up (goes, paces) = up_in b s.session.phase s.session events.Turn acts e.session up tt goes

up_writes : (b : Bool) (phase : Phase) (s e : StandingState) (now : ℕ) (known : KnownState) (acts : List Action) → IsUp b phase → Writes phase s now known acts e → IsUp b e.session.phase
up_writes b (phases.Open c) s e now known acts up (goes, is, paces) =
    up_open b (going s.session (ack_received c (inferred c.asked s.pace.progress)).1) (ack_received c (inferred c.asked s.pace.progress)).1 (events.Written known) [] e.session (up_ack c (inferred c.asked s.pace.progress) ∙ up) tt goes
up_writes b (phases.New hello c) s e now known acts up writes = absurd writes
up_writes b (phases.Hello greeter bytes c) s e now known acts up writes = absurd writes
up_writes b phases.Ended s e now known acts up writes = absurd writes

no_word : (b : Bool) → b ≡ true → IsNoWord (word_of b)
no_word true so = tt
no_word false so = absurd (false≢true so)

refused_word : (b : Bool) (table : ℕ) → IsNoWord (answer_of_refusal b table)
refused_word true table = tt
refused_word false table = tt

up_stands : (b : Bool) (event : Event) (s e : StandingState) (now : ℕ) (acts : List Action) → is_tick event ≡ false → has_left s.pace.progress ≡ true → IsUp b s.session.phase → Stands s now event acts e → IsUp b e.session.phase
up_stands b (events.Bytes bytes) s e now acts other marked up (goes, paces) = up_in b s.session.phase s.session (events.Bytes bytes) acts e.session up tt goes
up_stands b events.Turn s e now acts other marked up turns = up_turn b s.session.phase s e now acts refl up turns
up_stands b (events.Written known) s e now acts other marked up writes = up_writes b s.session.phase s e now known acts up writes
up_stands b (events.Copied table batch) s e now acts other marked up (goes, paces) = up_in b s.session.phase s.session (events.Copied table batch) acts e.session up tt goes
up_stands b (events.Refused table) s e now acts other marked up (goes, paces) = up_in b s.session.phase s.session _ acts e.session up (refused_word (is_ahead table s.pace.progress) table) goes
up_stands b events.Opened s e now acts other marked up (goes, paces) = up_in b s.session.phase s.session events.Opened acts e.session up tt goes
up_stands b events.Ask s e now acts other marked up (goes, paces) = up_in b s.session.phase s.session events.Ask acts e.session up tt goes
up_stands b events.CaughtUp s e now acts other marked up (goes, paces) = up_in b s.session.phase s.session _ acts e.session up (no_word (has_left s.pace.progress) marked) goes
up_stands b events.Tick s e now acts other marked up stands = absurd (false≢true (sym other))
up_stands b events.End s e now acts other marked up (goes, paces) = up_in b s.session.phase s.session events.End acts e.session up tt goes
up_stands b events.ReadFault s e now acts other marked up (goes, paces) = up_in b s.session.phase s.session events.ReadFault acts e.session up tt goes
up_stands b events.WriteFault s e now acts other marked up (goes, paces) = up_in b s.session.phase s.session events.WriteFault acts e.session up tt goes
up_stands b (events.Nothing table) s e now acts other marked up (goes, paces) = up_in b s.session.phase s.session (events.Nothing table) acts e.session up tt goes
up_stands b (events.Settled table settled) s e now acts other marked up (goes, paces) = up_in b s.session.phase s.session (events.Settled table settled) acts e.session up tt goes

-- ---- whether a table was left

-- no event leaves a table
left_does : (task : Task) (s e : StandingState) (c : Course) (now : ℕ) (acts : List Action) → Does task s c now acts e → has_left e.pace.progress ≡ has_left s.pace.progress
left_does tasks.Copy s e c now acts (goes, paces) = ap (λ (p : Pace). has_left p.progress) paces
left_does tasks.Rest s e c now acts (due, is, same) = ap (λ (x : StandingState). has_left x.pace.progress) same
left_does tasks.Begin s e c now acts (due, is, session, paces) = ap (λ (p : Pace). has_left p.progress) paces

left_turn : (phase : Phase) (s e : StandingState) (now : ℕ) (acts : List Action) → TakesTurn phase s now acts e → has_left e.pace.progress ≡ has_left s.pace.progress
left_turn (phases.Open c) s e now acts does = left_does (task_at now s.pace c) s e c now acts does
left_turn (phases.New hello c) s e now acts (goes, paces) = ap (λ (p : Pace). has_left p.progress) paces
left_turn (phases.Hello greeter bytes c) s e now acts (goes, paces) = ap (λ (p : Pace). has_left p.progress) paces
left_turn phases.Ended s e now acts (goes, paces) = ap (λ (p : Pace). has_left p.progress) paces

left_writes : (phase : Phase) (s e : StandingState) (now : ℕ) (known : KnownState) (acts : List Action) → Writes phase s now known acts e → has_left e.pace.progress ≡ has_left s.pace.progress
left_writes (phases.Open c) s e now known acts (goes, is, paces) = ap (λ (p : Pace). has_left p.progress) paces
left_writes (phases.New hello c) s e now known acts writes = absurd writes
left_writes (phases.Hello greeter bytes c) s e now known acts writes = absurd writes
left_writes phases.Ended s e now known acts writes = absurd writes

left_stands : (event : Event) (s e : StandingState) (now : ℕ) (acts : List Action) → is_tick event ≡ false → Stands s now event acts e → has_left e.pace.progress ≡ has_left s.pace.progress
left_stands (events.Bytes bytes) s e now acts other (goes, paces) = ap (λ (p : Pace). has_left p.progress) paces ∙ noted_left acts s.pace.progress
left_stands events.Turn s e now acts other turns = left_turn s.session.phase s e now acts turns
left_stands (events.Written known) s e now acts other writes = left_writes s.session.phase s e now known acts writes
left_stands (events.Copied table batch) s e now acts other (goes, paces) = ap (λ (p : Pace). has_left p.progress) paces ∙ copied_left table (last_number batch) now s.pace.progress
left_stands (events.Refused table) s e now acts other (goes, paces) = ap (λ (p : Pace). has_left p.progress) paces
left_stands events.Opened s e now acts other (goes, paces) = ap (λ (p : Pace). has_left p.progress) paces
left_stands events.Ask s e now acts other (goes, paces) = ap (λ (p : Pace). has_left p.progress) paces
left_stands events.CaughtUp s e now acts other (goes, paces) = ap (λ (p : Pace). has_left p.progress) paces
left_stands events.Tick s e now acts other stands = absurd (false≢true (sym other))
left_stands events.End s e now acts other (goes, paces) = ap (λ (p : Pace). has_left p.progress) paces
left_stands events.ReadFault s e now acts other (goes, paces) = ap (λ (p : Pace). has_left p.progress) paces
left_stands events.WriteFault s e now acts other (goes, paces) = ap (λ (p : Pace). has_left p.progress) paces
left_stands (events.Nothing table) s e now acts other (goes, paces) = ap (λ (p : Pace). has_left p.progress) paces
left_stands (events.Settled table settled) s e now acts other (goes, paces) = ap (λ (p : Pace). has_left p.progress) paces

-- ---- ticks

-- a table was left, and this node doesn't count as up to date
abbrev IsPartial : StandingState → Type 0
IsPartial s = (has_left s.pace.progress ≡ true) × IsUp false s.session.phase

-- if a table was left, this is known, and this node doesn't count as up to date
abbrev IsMarked : Bool → StandingState → Type 0
IsMarked left s = left ≡ true → IsPartial s

-- if a tick left no table, one was left before
left_before : (was : Bool) (now : ℕ) (left : List ℕ) (acts : List Action) → left ≡ [] → (was || any_left left) ≡ true → was ≡ true
left_before true now left acts none so = refl
left_before false now left acts none so = absurd (false≢true (sym (ap (λ (xs : List ℕ). any_left xs) none) ∙ so))

marked_leaving : (was : Bool) (now : ℕ) (left : List ℕ) (acts : List Action) (c : Course) → (was ≡ true → c.up_to_date ≡ false) → (was || any_left left) ≡ true → (leaving left c).1.up_to_date ≡ false
marked_leaving true now [] acts c marked so = marked refl
marked_leaving false now [] acts c marked so = absurd (false≢true so)
marked_leaving was now (table ∷ tables) acts c marked so = up_finishing false (without_tables (table ∷ tables) c) refl

marked_still : (was : Bool) (now : ℕ) (left : List ℕ) (acts : List Action) (s e : StandingState) → left ≡ [] → e ≡ s → IsMarked was s → IsMarked (was || any_left left) e
marked_still was now left acts s e none same marked = λ so. subst IsPartial (sym same) (marked (left_before was now left acts none so))

marked_ticks : (was silent : Bool) (phase : Phase) (s e : StandingState) (now : ℕ) (left : List ℕ) (acts : List Action) → s.session.phase ≡ phase → IsMarked was s → TicksIn silent phase s now left acts e → IsMarked (was || any_left left) e
marked_ticks was true phase s e now left acts stands marked (leaves, is, session, paces) = λ so. (
  ap (λ (p : Pace). has_left p.progress) paces ∙ (marked (left_before was now left acts leaves so)).0,
  up_at false e.session _ session tt,
)
marked_ticks was false (phases.Open c) s e now left acts stands marked (leaves, is, session, paces) = λ so. (
  ap (λ (p : Pace). has_left p.progress) paces ∙ left_noted was now left s.pace.progress c.shares leaves (λ was_so. (marked was_so).0) so,
  up_at false e.session _ session (marked_leaving was now left acts c (λ was_so. subst (IsUp false) stands (marked was_so).1) so),
)
marked_ticks was false (phases.New hello c) s e now left acts stands marked (leaves, is, same) = marked_still was now left acts s e leaves same marked
marked_ticks was false (phases.Hello greeter bytes c) s e now left acts stands marked (leaves, is, same) = marked_still was now left acts s e leaves same marked
marked_ticks was false phases.Ended s e now left acts stands marked (leaves, is, same) = marked_still was now left acts s e leaves same marked

or_false : (b : Bool) → (b || false) ≡ b
or_false true = refl
or_false false = refl

marked_at : (was : Bool) (now : ℕ) (event : Event) (acts : List Action) (s e : StandingState) → is_tick event ≡ false → IsMarked was s → Stands s now event acts e → IsMarked (was || false) e
marked_at was now event acts s e other marked stands = λ so.
    let before : IsPartial s = marked (sym (or_false was) ∙ so) in
    (left_stands event s e now acts other stands ∙ before.0, up_stands false event s e now acts other before.0 before.1 stands)

marked_tick : (was : Bool) (now : ℕ) (acts : List Action) (s e : StandingState) → IsMarked was s → Stands s now events.Tick acts e → IsMarked (was || list_any is_reopen acts) e
marked_tick was now acts s e marked (asked, (left, rest, ticks, is)) =
    subst (λ (b : Bool). IsMarked (was || b) e) (sym (any_reopened _ s.session.phase s e now left rest acts ticks is))
    (marked_ticks was _ s.session.phase s e now left rest refl marked ticks)

marked_happens : (was : Bool) (one : Happening) (s e : StandingState) → IsMarked was s → Happens s one e → IsMarked (was || leaves_any one) e
marked_happens was one s e marked happens = elim (tick_or_not one.event) [
  | inl is ↦
      subst (λ (event : Event). IsMarked (was || (is_tick event && list_any is_reopen one.acts)) e) (sym is)
      (marked_tick was one.now one.acts s e marked (subst (λ (event : Event). Stands s one.now event one.acts e) is happens))
  | inr other ↦
      subst (λ (b : Bool). IsMarked (was || (b && list_any is_reopen one.acts)) e) (sym other)
      (marked_at was one.now one.event one.acts s e other marked happens)
]

or_assoc : (a b c : Bool) → ((a || b) || c) ≡ (a || (b || c))
or_assoc true b c = refl
or_assoc false b c = refl

marked_lasts : (steps : List Happening) (was : Bool) (s e : StandingState) → IsMarked was s → Lasts s steps e → IsMarked (was || list_any leaves_any steps) e
marked_lasts [] was s e marked here =
    subst (λ (b : Bool). IsMarked b e) (sym (or_false was)) (subst (IsMarked was) (sym here) marked)
marked_lasts (one ∷ steps) was s e marked (mid, happens, lasts) =
    subst (λ (b : Bool). IsMarked b e) (or_assoc was (leaves_any one) (list_any leaves_any steps))
    (marked_lasts steps (was || leaves_any one) mid e (marked_happens was one s mid marked happens) lasts)

-- ---- who sends resync finished

or_left : (a b : Bool) → (a || b) ≡ false → a ≡ false
or_left true b so = so
or_left false b so = refl

or_right : (a b : Bool) → (a || b) ≡ false → b ≡ false
or_right true b so = absurd (false≢true (sym so))
or_right false b so = so

neither : (a b : Bool) → a ≡ false → b ≡ false → (a || b) ≡ false
neither true b one other = one
neither false b one other = other

-- what ends no resync doesn't finish one
none_finished : (acts : List Action) → ends_resync acts ≡ false → list_any is_finish acts ≡ false
none_finished [] none = refl
none_finished (actions.Send bytes ∷ acts) none =
    neither _ _ (or_left (is_same bytes (control_text controls.ResyncFinished)) (is_same bytes (control_text controls.ResyncPartial)) (or_left (is_end (actions.Send bytes)) (ends_resync acts) none)) (none_finished acts (or_right (is_end (actions.Send bytes)) (ends_resync acts) none))
none_finished (actions.Ack table number ∷ acts) none = none_finished acts none
none_finished (actions.Learn u ∷ acts) none = none_finished acts none
none_finished (actions.Reopen table ∷ acts) none = none_finished acts none
none_finished (actions.Copy table kind ∷ acts) none = none_finished acts none
none_finished (actions.Teach batch ∷ acts) none = none_finished acts none
none_finished (actions.Part kind ∷ acts) none = none_finished acts none
none_finished (actions.Close ∷ acts) none = none_finished acts none

-- an end of a node that isn't up to date is no finish
partial_end : (b : Bool) → b ≡ false → list_any is_finish (sends_control (finished b) ∷ []) ≡ false
partial_end true up = absurd (false≢true (sym up))
partial_end false up = refl

partial_finished : (q : Bool) (c : Course) → c.up_to_date ≡ false → list_any is_finish (finished_if q c).0 ≡ false
partial_finished true c up = partial_end c.up_to_date up
partial_finished false c up = refl

partial_finishing : (c : Course) → c.up_to_date ≡ false → list_any is_finish (finishing c).0 ≡ false
partial_finishing c up = partial_finished (c.teaching && all_quiet c.shares) c up

partial_finishes : (q : Bool) (s : SessionState) (c : Course) (acts : List Action) (e : SessionState) → c.up_to_date ≡ false → FinishesResync q s c acts e → list_any is_finish acts ≡ false
partial_finishes true s c acts e up (is, ends) = ap (list_any is_finish) is ∙ partial_end c.up_to_date up
partial_finishes false s c acts e up (is, ends) = ap (list_any is_finish) is

partial_nothing : (q : Bool) (s : SessionState) (c : Course) (table : ℕ) (acts : List Action) (e : SessionState) → c.up_to_date ≡ false → HasNothing q s c table acts e → list_any is_finish acts ≡ false
partial_nothing true s c table acts e up finishes = partial_finishes (all_quiet (quiet_set table c.shares)) s (record c { shares = quiet_set table c.shares }) acts e up finishes
partial_nothing false s c table acts e up (is, ends) = ap (list_any is_finish) is

partial_answer : (phase : Phase) (s : SessionState) (table : ℕ) (acts : List Action) (e : SessionState) → IsUp false phase → GoesIn phase s (events.Nothing table) acts e → list_any is_finish acts ≡ false
partial_answer (phases.Open c) s table acts e up (mid, answered, nothing) = partial_nothing mid.teaching s mid table acts e (up_answered false c mid answered.1 up) nothing
partial_answer (phases.New hello c) s table acts e up goes = absurd goes
partial_answer (phases.Hello greeter bytes c) s table acts e up goes = absurd goes
partial_answer phases.Ended s table acts e up goes = absurd goes

partial_begun : (c : Course) → c.up_to_date ≡ false → list_any is_finish (begun_resync c).0 ≡ false
partial_begun c up =
    list_any-append is_finish (reopens c.shares) (finishing (teaching_anew c)).0
    ∙ neither _ _ (none_finished (reopens c.shares) (plain_reopens 0 c.shares).0) (partial_finishing (teaching_anew c) up)

partial_does : (task : Task) (s e : StandingState) (c : Course) (now : ℕ) (acts : List Action) → s.session.phase ≡ phases.Open c → IsUp false s.session.phase → Does task s c now acts e → list_any is_finish acts ≡ false
partial_does tasks.Copy s e c now acts stands up (goes, paces) = none_finished acts (endless_in s.session.phase s.session events.Turn acts e.session tt goes)
partial_does tasks.Rest s e c now acts stands up (due, is, same) = ap (list_any is_finish) is
partial_does tasks.Begin s e c now acts stands up (due, is, session, paces) = ap (list_any is_finish) is ∙ partial_begun c (subst (IsUp false) stands up)

partial_turn : (phase : Phase) (s e : StandingState) (now : ℕ) (acts : List Action) → s.session.phase ≡ phase → IsUp false s.session.phase → TakesTurn phase s now acts e → list_any is_finish acts ≡ false
partial_turn (phases.Open c) s e now acts stands up does = partial_does (task_at now s.pace c) s e c now acts stands up does
partial_turn (phases.New hello c) s e now acts stands up (goes, paces) = none_finished acts (endless_in s.session.phase s.session events.Turn acts e.session tt goes)
partial_turn (phases.Hello greeter bytes c) s e now acts stands up (goes, paces) = none_finished acts (endless_in s.session.phase s.session events.Turn acts e.session tt goes)
partial_turn phases.Ended s e now acts stands up (goes, paces) = none_finished acts (endless_in s.session.phase s.session events.Turn acts e.session tt goes)

partial_writes : (phase : Phase) (s e : StandingState) (now : ℕ) (known : KnownState) (acts : List Action) → Writes phase s now known acts e → list_any is_finish acts ≡ false
partial_writes (phases.Open c) s e now known acts (goes, is, paces) = none_finished acts (ap ends_resync is ∙ end_ack c (inferred c.asked s.pace.progress))
partial_writes (phases.New hello c) s e now known acts writes = absurd writes
partial_writes (phases.Hello greeter bytes c) s e now known acts writes = absurd writes
partial_writes phases.Ended s e now known acts writes = absurd writes

beats_finish_none : (b : Bool) → list_any is_finish (heartbeats b) ≡ false
beats_finish_none true = refl
beats_finish_none false = refl

partial_leaving : (left : List ℕ) (c : Course) → list_any is_finish (leaving left c).0 ≡ false
partial_leaving [] c = refl
partial_leaving (table ∷ tables) c = partial_finishing (without_tables (table ∷ tables) c) refl

-- no tick finishes a resync
partial_ticks : (silent : Bool) (phase : Phase) (s e : StandingState) (now : ℕ) (left : List ℕ) (acts : List Action) → TicksIn silent phase s now left acts e → list_any is_finish acts ≡ false
partial_ticks true phase s e now left acts (leaves, is, session, paces) = ap (list_any is_finish) is
partial_ticks false (phases.Open c) s e now left acts (leaves, is, session, paces) =
    ap (list_any is_finish) is ∙ (list_any-append is_finish (leaving left c).0 (heartbeats _) ∙ neither _ _ (partial_leaving left c) (beats_finish_none _))
partial_ticks false (phases.New hello c) s e now left acts (leaves, is, same) = ap (list_any is_finish) is
partial_ticks false (phases.Hello greeter bytes c) s e now left acts (leaves, is, same) = ap (list_any is_finish) is
partial_ticks false phases.Ended s e now left acts (leaves, is, same) = ap (list_any is_finish) is

reopening_finishes : (left : List ℕ) → list_any is_finish (reopening left) ≡ false
reopening_finishes left = none_reopening is_finish (λ table. refl) left

partial_stands : (event : Event) (s e : StandingState) (now : ℕ) (acts : List Action) → IsUp false s.session.phase → Stands s now event acts e → list_any is_finish acts ≡ false
partial_stands (events.Bytes bytes) s e now acts up (goes, paces) = none_finished acts (endless_in s.session.phase s.session (events.Bytes bytes) acts e.session tt goes)
partial_stands events.Turn s e now acts up turns = partial_turn s.session.phase s e now acts refl up turns
partial_stands (events.Nothing table) s e now acts up (goes, paces) = partial_answer s.session.phase s.session table acts e.session up goes
partial_stands (events.Written known) s e now acts up writes = partial_writes s.session.phase s e now known acts writes
partial_stands (events.Refused table) s e now acts up (goes, paces) = none_finished acts (endless_in s.session.phase s.session _ acts e.session (endless_refusal (is_ahead table s.pace.progress) table) goes)
partial_stands (events.Copied table batch) s e now acts up (goes, paces) = none_finished acts (endless_in s.session.phase s.session (events.Copied table batch) acts e.session tt goes)
partial_stands events.Opened s e now acts up (goes, paces) = none_finished acts (endless_in s.session.phase s.session events.Opened acts e.session tt goes)
partial_stands events.Ask s e now acts up (goes, paces) = none_finished acts (endless_in s.session.phase s.session events.Ask acts e.session tt goes)
partial_stands events.CaughtUp s e now acts up (goes, paces) = none_finished acts (endless_in s.session.phase s.session _ acts e.session (endless_word (has_left s.pace.progress)) goes)
partial_stands events.Tick s e now acts up (asked, (left, rest, ticks, is)) =
    ap (list_any is_finish) is ∙ (list_any-append is_finish (reopening left) rest ∙ neither _ _ (reopening_finishes left) (partial_ticks _ s.session.phase s e now left rest ticks))
partial_stands events.End s e now acts up (goes, paces) = none_finished acts (endless_in s.session.phase s.session events.End acts e.session tt goes)
partial_stands events.ReadFault s e now acts up (goes, paces) = none_finished acts (endless_in s.session.phase s.session events.ReadFault acts e.session tt goes)
partial_stands events.WriteFault s e now acts up (goes, paces) = none_finished acts (endless_in s.session.phase s.session events.WriteFault acts e.session tt goes)
partial_stands (events.Settled table settled) s e now acts up (goes, paces) = none_finished acts (endless_in s.session.phase s.session (events.Settled table settled) acts e.session tt goes)

-- ---- the law

unfinished : {X : Type 0} (acts : List Action) → list_any is_finish acts ≡ false → list_any is_finish acts ≡ true → X
unfinished acts none finishes = absurd (false≢true (sym none ∙ finishes))

none_left_in : (was : Bool) (one : Happening) (s e : StandingState) → is_tick one.event ≡ false → IsMarked was s → Happens s one e → list_any is_finish one.acts ≡ true → (was || (leaves_any one || false)) ≡ false
none_left_in false one s e other marked happens finishes = rw other refl
none_left_in true one s e other marked happens finishes =
    unfinished one.acts (partial_stands one.event s e one.now one.acts (marked refl).1 happens) finishes

tick_finishes : (s e : StandingState) (now : ℕ) (acts : List Action) → Stands s now events.Tick acts e → list_any is_finish acts ≡ false
tick_finishes s e now acts (asked, (left, rest, ticks, is)) =
    ap (list_any is_finish) is ∙ (list_any-append is_finish (reopening left) rest ∙ neither _ _ (reopening_finishes left) (partial_ticks _ s.session.phase s e now left rest ticks))

none_left_by : (was : Bool) (one : Happening) (s e : StandingState) → IsMarked was s → Happens s one e → list_any is_finish one.acts ≡ true → (was || (leaves_any one || false)) ≡ false
none_left_by was one s e marked happens finishes = elim (tick_or_not one.event) [
  | inl is ↦ unfinished one.acts (tick_finishes s e one.now one.acts (subst (λ (event : Event). Stands s one.now event one.acts e) is happens)) finishes
  | inr other ↦ none_left_in was one s e other marked happens finishes
]

pub finished_leaves_none : (roster : List Definition) (begun s e : StandingState) (steps : List Happening) (one : Happening) → BeginsToStay roster begun → Lasts begun steps s → Happens s one e → list_any is_finish one.acts ≡ true → list_any leaves_any (steps ++ (one ∷ [])) ≡ false
finished_leaves_none roster begun s e steps one begins lasts happens finishes =
    let marked : IsMarked (false || list_any leaves_any steps) s = marked_lasts steps false begun s (λ so. absurd (false≢true so)) lasts in
    list_any-append leaves_any steps (one ∷ [])
    ∙ none_left_by (list_any leaves_any steps) one s e marked happens finishes
