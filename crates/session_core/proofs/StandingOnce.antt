-- A step of a session that stays is unique, and an event that may not come makes none.
use Rattle.std.proofs.Common.{◌≡◌, ℕ, Bool, true, false, ◌||◌, List, [], ◌∷◌, ◌++◌, Option, Some, None, refl, sym, ap, ◌∙◌}
use Rattle.std.specs.List.{list_any}
use Rattle.std.proofs.lemmas.Bool.{false≢true}
use Rattle.table_types.specs.declared.update.Update.{Update}
use Rattle.known_state.specs.Known.{KnownState}
use Rattle.session_core.specs.declared.action.Action.{Action}
use Rattle.session_core.specs.declared.due.Due.{Due}
use Rattle.session_core.specs.declared.due.Due.TheVariants as dues
use Rattle.session_core.specs.declared.event.Event.{Event}
use Rattle.session_core.specs.declared.event.Event.TheVariants as events
use Rattle.session_core.specs.declared.pace.Task.{Task}
use Rattle.session_core.specs.declared.pace.Task.TheVariants as tasks
use Rattle.session_core.specs.Phases.{Phase}
use Rattle.session_core.specs.Phases as phases
use Rattle.session_core.specs.Shares.{is_out}
use Rattle.session_core.specs.Courses.{Course, acknowledged, ack_received, is_due}
use Rattle.session_core.specs.Sessions.{SessionState, going, is_asked}
use Rattle.session_core.specs.Paces.{Pace, has_passed, heartbeat_time, silence_time, renewed, inferred, is_ahead, noted, copied_in, last_number, left_in, has_left}
use Rattle.session_core.specs.Standing.{StandingState, is_send, paced, HandsOn, Does, task_at, TakesTurn, Writes, answer_of_refusal, Stands, leaving, heartbeats, forgetting, any_left, word_of, reopening, TicksIn}
use Rattle.session_core.proofs.TickGives.{asked_word}
use Rattle.session_core.proofs.StepIsUnique.{goes_once}
use Rattle.session_core.proofs.AskedLaws.{asked_where_goes}

-- ---- one event

abbrev state_with : SessionState → Pace → StandingState
state_with s p = record { session = s; pace = p }

both : (a b : SessionState) (p q : Pace) → a ≡ b → p ≡ q → state_with a p ≡ state_with b q
both a b p q first second = ap (λ (x : SessionState). state_with x p) first ∙ ap (λ (x : Pace). state_with b x) second

states : (e end : StandingState) → e.session ≡ end.session → e.pace ≡ end.pace → e ≡ end
states e end session pace = both e.session end.session e.pace end.pace session pace

abbrev AreSame : List Action → List Action → StandingState → StandingState → Type 0
AreSame acts others e end = (acts ≡ others) × (e ≡ end)

-- the pace is the one that these actions make of the other
same_pace : (make : List Action → Pace) (acts others : List Action) (p q : Pace) → acts ≡ others → p ≡ make acts → q ≡ make others → p ≡ q
same_pace make acts others p q same one other = one ∙ (ap make same ∙ sym other)

once_hands : (event : Event) (s e end : StandingState) (now : ℕ) (acts others : List Action) → HandsOn s now event acts e → HandsOn s now event others end → AreSame acts others e end
once_hands event s e end now acts others (goes, paces) (goes_too, paces_too) =
    let one = goes_once s.session e.session end.session event acts others goes goes_too in
    (one.0, states e end one.1 (same_pace (λ xs. paced s.session.phase now event xs s.pace) acts others e.pace end.pace one.0 paces paces_too))

once_copied : (table : ℕ) (batch : List Update) (s e end : StandingState) (now : ℕ) (acts others : List Action) → Stands s now (events.Copied table batch) acts e → Stands s now (events.Copied table batch) others end → AreSame acts others e end
once_copied table batch s e end now acts others (goes, paces) (goes_too, paces_too) =
    let one = goes_once s.session e.session end.session (events.Copied table batch) acts others goes goes_too in
    (one.0, states e end one.1 (same_pace (λ xs. record (paced s.session.phase now (events.Copied table batch) xs s.pace) { progress = copied_in table (last_number batch) now s.pace.progress }) acts others e.pace end.pace one.0 paces paces_too))

once_bytes : (bytes : List ℕ) (s e end : StandingState) (now : ℕ) (acts others : List Action) → Stands s now (events.Bytes bytes) acts e → Stands s now (events.Bytes bytes) others end → AreSame acts others e end
once_bytes bytes s e end now acts others (goes, paces) (goes_too, paces_too) =
    let one = goes_once s.session e.session end.session (events.Bytes bytes) acts others goes goes_too in
    (one.0, states e end one.1 (same_pace (λ xs. record (paced s.session.phase now (events.Bytes bytes) xs s.pace) { progress = noted xs s.pace.progress }) acts others e.pace end.pace one.0 paces paces_too))

once_does : (task : Task) (s e end : StandingState) (c : Course) (now : ℕ) (acts others : List Action) → Does task s c now acts e → Does task s c now others end → AreSame acts others e end
once_does tasks.Copy s e end c now acts others one other = once_hands events.Turn s e end now acts others one other
once_does tasks.Rest s e end c now acts others (due, is, same) (due_too, is_too, same_too) = (is ∙ sym is_too, same ∙ sym same_too)
once_does tasks.Begin s e end c now acts others (due, is, session, paces) (due_too, is_too, session_too, paces_too) = (
  is ∙ sym is_too,
  states e end (session ∙ sym session_too)
      (same_pace (λ xs. record (paced s.session.phase now events.Turn xs s.pace) { reopened = Some now }) acts others e.pace end.pace (is ∙ sym is_too) paces paces_too),
)

once_turn : (phase : Phase) (s e end : StandingState) (now : ℕ) (acts others : List Action) → TakesTurn phase s now acts e → TakesTurn phase s now others end → AreSame acts others e end
once_turn (phases.Open c) s e end now acts others one other = once_does (task_at now s.pace c) s e end c now acts others one other
once_turn (phases.New hello c) s e end now acts others one other = once_hands events.Turn s e end now acts others one other
once_turn (phases.Hello greeter bytes c) s e end now acts others one other = once_hands events.Turn s e end now acts others one other
once_turn phases.Ended s e end now acts others one other = once_hands events.Turn s e end now acts others one other

once_writes : (phase : Phase) (s e end : StandingState) (now : ℕ) (known : KnownState) (acts others : List Action) → Writes phase s now known acts e → Writes phase s now known others end → AreSame acts others e end
once_writes (phases.Open c) s e end now known acts others (goes, is, paces) (goes_too, is_too, paces_too) =
    let one = goes_once (going s.session (ack_received c (inferred c.asked s.pace.progress)).1) e.session end.session (events.Written known) [] [] goes goes_too in (
      is ∙ sym is_too,
      states e end one.1 (same_pace (λ xs. paced s.session.phase now (events.Written known) xs s.pace) acts others e.pace end.pace (is ∙ sym is_too) paces paces_too),
    )
once_writes (phases.New hello c) s e end now known acts others one other = absurd one
once_writes (phases.Hello greeter bytes c) s e end now known acts others one other = absurd one
once_writes phases.Ended s e end now known acts others one other = absurd one

ticks_in_once : (silent : Bool) (phase : Phase) (s e end : StandingState) (now : ℕ) (left tables : List ℕ) (acts others : List Action) → TicksIn silent phase s now left acts e → TicksIn silent phase s now tables others end → (left ≡ tables) × (acts ≡ others) × (e ≡ end)
ticks_in_once true phase s e end now left tables acts others (leaves, is, session, paces) (leaves_too, is_too, session_too, paces_too) =
    (leaves ∙ sym leaves_too, is ∙ sym is_too, states e end (session ∙ sym session_too) (paces ∙ sym paces_too))
ticks_in_once false (phases.Open c) s e end now left tables acts others (leaves, is, session, paces) (leaves_too, is_too, session_too, paces_too) =
    let same : left ≡ tables = leaves ∙ sym leaves_too in
    let same_acts : acts ≡ others = is ∙ (ap (λ (xs : List ℕ). (leaving xs c).0 ++ heartbeats (has_passed heartbeat_time s.pace.sent now)) same ∙ sym is_too) in
    let same_session : e.session ≡ end.session = session ∙ (ap (λ (xs : List ℕ). going (forgetting xs s.session) (leaving xs c).1) same ∙ sym session_too) in
    let same_paces : e.pace ≡ end.pace =
    paces ∙ (ap (λ (xs : List Action). record s.pace { sent = renewed (list_any is_send xs) now s.pace.sent; progress = left_in left s.pace.progress }) same_acts
    ∙ (ap (λ (xs : List ℕ). record s.pace { sent = renewed (list_any is_send others) now s.pace.sent; progress = left_in xs s.pace.progress }) same ∙ sym paces_too)) in
    (same, same_acts, states e end same_session same_paces)
ticks_in_once false (phases.New hello c) s e end now left tables acts others (leaves, is, same) (leaves_too, is_too, same_too) = (leaves ∙ sym leaves_too, is ∙ sym is_too, same ∙ sym same_too)
ticks_in_once false (phases.Hello greeter bytes c) s e end now left tables acts others (leaves, is, same) (leaves_too, is_too, same_too) = (leaves ∙ sym leaves_too, is ∙ sym is_too, same ∙ sym same_too)
ticks_in_once false phases.Ended s e end now left tables acts others (leaves, is, same) (leaves_too, is_too, same_too) = (leaves ∙ sym leaves_too, is ∙ sym is_too, same ∙ sym same_too)

stands_event : (event : Event) (s e end : StandingState) (now : ℕ) (acts others : List Action) → Stands s now event acts e → Stands s now event others end → AreSame acts others e end
stands_event (events.Bytes bytes) s e end now acts others one other = once_bytes bytes s e end now acts others one other
stands_event events.Turn s e end now acts others one other = once_turn s.session.phase s e end now acts others one other
stands_event (events.Copied table batch) s e end now acts others one other = once_copied table batch s e end now acts others one other
stands_event (events.Written known) s e end now acts others one other = once_writes s.session.phase s e end now known acts others one other
stands_event (events.Refused table) s e end now acts others one other = once_hands _ s e end now acts others one other
stands_event events.Opened s e end now acts others one other = once_hands events.Opened s e end now acts others one other
stands_event events.Ask s e end now acts others one other = once_hands events.Ask s e end now acts others one other
stands_event events.CaughtUp s e end now acts others one other = once_hands _ s e end now acts others one other
stands_event events.Tick s e end now acts others (asked, (left, rest, ticks, is)) (asked_too, (tables, rest_too, ticks_too, is_too)) =
    let one = ticks_in_once (has_passed silence_time s.pace.heard now) s.session.phase s e end now left tables rest rest_too ticks ticks_too in
    (is ∙ (ap (λ (xs : List ℕ). reopening xs ++ rest) one.0 ∙ (ap (λ (xs : List Action). reopening tables ++ xs) one.1 ∙ sym is_too)), one.2)
stands_event events.End s e end now acts others one other = once_hands events.End s e end now acts others one other
stands_event events.ReadFault s e end now acts others one other = once_hands events.ReadFault s e end now acts others one other
stands_event events.WriteFault s e end now acts others one other = once_hands events.WriteFault s e end now acts others one other
stands_event (events.Nothing table) s e end now acts others one other = once_hands (events.Nothing table) s e end now acts others one other
stands_event (events.Settled table settled) s e end now acts others one other = once_hands (events.Settled table settled) s e end now acts others one other

pub stands_once : (s e end : StandingState) (now : ℕ) (event : Event) (acts others : List Action) → Stands s now event acts e → Stands s now event others end → (acts ≡ others) × (e ≡ end)
stands_once s e end now event acts others one other = stands_event event s e end now acts others one other

-- ---- what may come

asked_does : (task : Task) (s e : StandingState) (c : Course) (now : ℕ) (acts : List Action) → s.session.phase ≡ phases.Open c → Does task s c now acts e → is_asked s.session.phase events.Turn ≡ true
asked_does tasks.Copy s e c now acts stands (goes, paces) = asked_where_goes s.session e.session events.Turn acts goes
asked_does tasks.Rest s e c now acts stands (due, is, same) = rw (stands, due) refl
asked_does tasks.Begin s e c now acts stands (due, is, session, paces) = rw (stands, due) refl

asked_turn : (phase : Phase) (s e : StandingState) (now : ℕ) (acts : List Action) → s.session.phase ≡ phase → TakesTurn phase s now acts e → is_asked s.session.phase events.Turn ≡ true
asked_turn (phases.Open c) s e now acts stands does = asked_does (task_at now s.pace c) s e c now acts stands does
asked_turn (phases.New hello c) s e now acts stands (goes, paces) = asked_where_goes s.session e.session events.Turn acts goes
asked_turn (phases.Hello greeter bytes c) s e now acts stands (goes, paces) = asked_where_goes s.session e.session events.Turn acts goes
asked_turn phases.Ended s e now acts stands (goes, paces) = asked_where_goes s.session e.session events.Turn acts goes

-- an acknowledgement that is due last doesn't come before a lesson
due_before : (due : List Due) (table : ℕ) → is_due dues.Teach (due ++ (dues.Ack table ∷ [])) ≡ true → is_due dues.Teach due ≡ true
due_before [] table is = absurd (false≢true is)
due_before (d ∷ ds) table is = is

due_passed : (b : Bool) (c : Course) (table number : ℕ) → is_due dues.Teach (acknowledged b c table number).1.due ≡ true → is_due dues.Teach c.due ≡ true
due_passed true c table number is = due_before c.due table is
due_passed false c table number is = is

due_ack : (c : Course) (ack : Option (ℕ × ℕ)) → is_due dues.Teach (ack_received c ack).1.due ≡ true → is_due dues.Teach c.due ≡ true
due_ack c (Some (table, number)) is = due_passed (is_out table c.shares) c table number is
due_ack c None is = is

asked_writes : (phase : Phase) (s e : StandingState) (now : ℕ) (known : KnownState) (acts : List Action) → Writes phase s now known acts e → is_asked phase (events.Written known) ≡ true
asked_writes (phases.Open c) s e now known acts (goes, is, paces) =
    due_ack c (inferred c.asked s.pace.progress) (asked_where_goes (going s.session (ack_received c (inferred c.asked s.pace.progress)).1) e.session (events.Written known) [] goes)
asked_writes (phases.New hello c) s e now known acts writes = absurd writes
asked_writes (phases.Hello greeter bytes c) s e now known acts writes = absurd writes
asked_writes phases.Ended s e now known acts writes = absurd writes

pub asked_refusal : (phase : Phase) (b : Bool) (table : ℕ) → is_asked phase (answer_of_refusal b table) ≡ is_asked phase (events.Refused table)
asked_refusal (phases.New hello c) true table = refl
asked_refusal (phases.New hello c) false table = refl
asked_refusal (phases.Hello greeter bytes c) true table = refl
asked_refusal (phases.Hello greeter bytes c) false table = refl
asked_refusal (phases.Open c) true table = refl
asked_refusal (phases.Open c) false table = refl
asked_refusal phases.Ended b table = refl

asked_event : (event : Event) (s e : StandingState) (now : ℕ) (acts : List Action) → Stands s now event acts e → is_asked s.session.phase event ≡ true
asked_event (events.Bytes bytes) s e now acts (goes, paces) = asked_where_goes s.session e.session (events.Bytes bytes) acts goes
asked_event events.Turn s e now acts turns = asked_turn s.session.phase s e now acts refl turns
asked_event (events.Written known) s e now acts writes = asked_writes s.session.phase s e now known acts writes
asked_event (events.Refused table) s e now acts (goes, paces) =
    sym (asked_refusal s.session.phase (is_ahead table s.pace.progress) table) ∙ asked_where_goes s.session e.session (answer_of_refusal (is_ahead table s.pace.progress) table) acts goes
asked_event (events.Copied table batch) s e now acts (goes, paces) = asked_where_goes s.session e.session (events.Copied table batch) acts goes
asked_event events.Opened s e now acts (goes, paces) = asked_where_goes s.session e.session events.Opened acts goes
asked_event events.Ask s e now acts (goes, paces) = asked_where_goes s.session e.session events.Ask acts goes
asked_event events.CaughtUp s e now acts (goes, paces) = sym (asked_word s.session.phase (has_left s.pace.progress)) ∙ asked_where_goes s.session e.session (word_of (has_left s.pace.progress)) acts goes
asked_event events.Tick s e now acts (asked, ticks) = asked
asked_event events.End s e now acts (goes, paces) = asked_where_goes s.session e.session events.End acts goes
asked_event events.ReadFault s e now acts (goes, paces) = asked_where_goes s.session e.session events.ReadFault acts goes
asked_event events.WriteFault s e now acts (goes, paces) = asked_where_goes s.session e.session events.WriteFault acts goes
asked_event (events.Nothing table) s e now acts (goes, paces) = asked_where_goes s.session e.session (events.Nothing table) acts goes
asked_event (events.Settled table settled) s e now acts (goes, paces) = asked_where_goes s.session e.session (events.Settled table settled) acts goes

pub asked_where_stands : (s e : StandingState) (now : ℕ) (event : Event) (acts : List Action) → Stands s now event acts e → is_asked s.session.phase event ≡ true
asked_where_stands s e now event acts stands = asked_event event s e now acts stands
