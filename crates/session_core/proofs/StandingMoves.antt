-- What happens to a session that stays, as the machine of its session sees it: it makes a step, or it goes on with another course, or it is over.
use Rattle.std.proofs.Common.{◌≡◌, ◌⊎◌, ℕ, Bool, true, false, ◌||◌, List, [], ◌∷◌, ◌++◌, Some, None, Option, refl, sym, ap, ◌∙◌, subst, inl, inr}
use Rattle.std.proofs.lemmas.List.Folds.{list_any-append}
use Rattle.known_state.specs.Known.{KnownState}
use Rattle.table_types.specs.declared.copies.Settled.TheVariants as settles
use Rattle.session_core.specs.declared.action.Action.{Action}
use Rattle.session_core.specs.declared.action.Action.TheVariants as actions
use Rattle.session_core.specs.declared.event.Event.{Event}
use Rattle.session_core.specs.declared.event.Event.TheVariants as events
use Rattle.session_core.specs.declared.pace.Task.{Task}
use Rattle.session_core.specs.declared.pace.Task.TheVariants as tasks
use Rattle.session_core.specs.Phases.{Phase}
use Rattle.session_core.specs.Phases as phases
use Rattle.session_core.specs.Shares.{is_out}
use Rattle.session_core.specs.Actions.{confirms, is_confirmation, reopens}
use Rattle.session_core.specs.Courses.{Course, acknowledged, ack_received, teaching_anew}
use Rattle.session_core.specs.Sessions.{SessionState, Goes}
use Rattle.session_core.specs.Hearing.{bytes_of, heard_in}
use Rattle.session_core.specs.Paces.{has_passed, heartbeat_time, inferred, is_ahead, silence_time, has_left}
use Rattle.session_core.specs.Standing.{StandingState, changed, finished_if, finishing, begun_resync, forgetting, heartbeats, leaving, without_tables, Does, task_at, TakesTurn, Writes, answer_of_refusal, Stands, TicksIn, word_of, reopening}
use Rattle.session_core.specs.Happenings.{Happening, handed}
use Rattle.session_core.proofs.MachineRuns.{Ticks, Happens, at}
use Rattle.session_core.proofs.TickGives.{after_reopening}
use Rattle.session_core.proofs.ConfirmedLaws.{finished_plain, reopens_plain}

-- the bytes that it received
abbrev pub heard_by : Happening → List ℕ
heard_by one = bytes_of one.event

pub heard_more : (one : Happening) (steps : List Happening) → heard_in (handed (one ∷ steps)) ≡ heard_by one ++ heard_in (handed steps)
heard_more one steps = refl

-- alike but for the phase and for what is known of the remote peer
abbrev pub IsAlike : SessionState → SessionState → Type 0
IsAlike s e = (e.fault ≡ s.fault) × (e.confirmed ≡ s.confirmed) × (e.version ≡ s.version) × (e.fell_back ≡ s.fell_back)

-- over, or the same with another course
abbrev pub IsOnward : Phase → Phase → Type 0
IsOnward p q = (q ≡ phases.Ended) ⊎ ((change : Course → Course) × (q ≡ changed change p))

-- the machine makes a step, which receives the same and confirms as much
abbrev pub IsStep : SessionState → Happening → SessionState → Type 0
IsStep s one e = (event : Event) × (acts : List Action) × Goes s event acts e × (confirms one.acts ≡ confirms acts) × (heard_by one ≡ bytes_of event)

-- nothing is received, and no resync confirmed
abbrev pub IsSilent : SessionState → Happening → SessionState → Type 0
IsSilent s one e = IsAlike s e × IsOnward s.phase e.phase × (confirms one.acts ≡ false) × (heard_by one ≡ [])

abbrev pub Moves : SessionState → Happening → SessionState → Type 0
Moves s one e = IsStep s one e ⊎ IsSilent s one e

-- ---- alike

alike_at : (s e x : SessionState) → e ≡ x → IsAlike s x → IsAlike s e
alike_at s e x is alike = subst (IsAlike s) (sym is) alike

changed_same : (p : Phase) → changed (λ c. c) p ≡ p
changed_same (phases.New hello c) = refl
changed_same (phases.Hello greeter bytes c) = refl
changed_same (phases.Open c) = refl
changed_same phases.Ended = refl

onward_same : (p q : Phase) → q ≡ p → IsOnward p q
onward_same p q is = inr ((λ c. c), is ∙ sym (changed_same p))

onward_open : (p q : Phase) (c d : Course) → p ≡ phases.Open c → q ≡ phases.Open d → IsOnward p q
onward_open p q c d opens stays = inr ((λ _. d), stays ∙ sym (ap (changed (λ _. d)) opens))

-- ---- what confirms nothing

unconfirmed : (acts given : List Action) → acts ≡ given → confirms given ≡ false → confirms acts ≡ false
unconfirmed acts given is none = ap confirms is ∙ none

both_unconfirmed : (xs ys : List Action) → confirms xs ≡ false → confirms ys ≡ false → confirms (xs ++ ys) ≡ false
both_unconfirmed xs ys one other = list_any-append is_confirmation xs ys ∙ rw (one, other) refl

finished_unconfirmed : (b : Bool) (c : Course) → confirms (finished_if b c).0 ≡ false
finished_unconfirmed true c = finished_plain c.up_to_date
finished_unconfirmed false c = refl

left_unconfirmed : (left : List ℕ) (c : Course) → confirms (leaving left c).0 ≡ false
left_unconfirmed [] c = refl
left_unconfirmed (table ∷ tables) c = finished_unconfirmed _ (without_tables (table ∷ tables) c)

beats_unconfirmed : (b : Bool) → confirms (heartbeats b) ≡ false
beats_unconfirmed true = refl
beats_unconfirmed false = refl

passed_unconfirmed : (b : Bool) (c : Course) (table number : ℕ) → confirms (acknowledged b c table number).0 ≡ false
passed_unconfirmed true c table number = refl
passed_unconfirmed false c table number = refl

ack_unconfirmed : (c : Course) (ack : Option (ℕ × ℕ)) → confirms (ack_received c ack).0 ≡ false
ack_unconfirmed c (Some (table, number)) = passed_unconfirmed (is_out table c.shares) c table number
ack_unconfirmed c None = refl

-- ---- events

does_moves : (task : Task) (s e : StandingState) (c : Course) (now : ℕ) (acts : List Action) → s.session.phase ≡ phases.Open c → Does task s c now acts e → Moves s.session (at now events.Turn acts) e.session
does_moves tasks.Copy s e c now acts stands (goes, paces) = inl (events.Turn, acts, goes, refl, refl)
does_moves tasks.Rest s e c now acts stands (due, is, same) =
    let session : e.session ≡ s.session = ap (λ (x : StandingState). x.session) same in
    inr (alike_at s.session e.session s.session session (refl, refl, refl, refl), onward_same s.session.phase e.session.phase (ap (λ (x : SessionState). x.phase) session), unconfirmed acts [] is refl, refl)
does_moves tasks.Begin s e c now acts stands (due, is, session, paces) = inr (
  alike_at s.session e.session _ session (refl, refl, refl, refl),
  onward_open s.session.phase e.session.phase c (begun_resync c).1 stands (ap (λ (x : SessionState). x.phase) session),
  unconfirmed acts _ is (both_unconfirmed (reopens c.shares) (finishing (teaching_anew c)).0 (reopens_plain c.shares) (finished_unconfirmed _ (teaching_anew c))),
  refl,
)

turn_moves : (phase : Phase) (s e : StandingState) (now : ℕ) (acts : List Action) → s.session.phase ≡ phase → TakesTurn phase s now acts e → Moves s.session (at now events.Turn acts) e.session
turn_moves (phases.Open c) s e now acts stands does = does_moves (task_at now s.pace c) s e c now acts stands does
turn_moves (phases.New hello c) s e now acts stands (goes, paces) = inl (events.Turn, acts, goes, refl, refl)
turn_moves (phases.Hello greeter bytes c) s e now acts stands (goes, paces) = inl (events.Turn, acts, goes, refl, refl)
turn_moves phases.Ended s e now acts stands (goes, paces) = inl (events.Turn, acts, goes, refl, refl)

writes_moves : (phase : Phase) (s e : StandingState) (now : ℕ) (known : KnownState) (acts : List Action) → s.session.phase ≡ phase → Writes phase s now known acts e → Moves s.session (at now (events.Written known) acts) e.session
writes_moves (phases.Open c) s e now known acts stands ((mid, answered, none, ends), is, paces) = inr (
  alike_at s.session e.session _ ends (refl, refl, refl, refl),
  onward_open s.session.phase e.session.phase c mid stands (ap (λ (x : SessionState). x.phase) ends),
  unconfirmed acts _ is (ack_unconfirmed c (inferred c.asked s.pace.progress)),
  refl,
)
writes_moves (phases.New hello c) s e now known acts stands writes = absurd writes
writes_moves (phases.Hello greeter bytes c) s e now known acts stands writes = absurd writes
writes_moves phases.Ended s e now known acts stands writes = absurd writes

refused_moves : (b : Bool) (s e : SessionState) (now table : ℕ) (acts : List Action) → Goes s (answer_of_refusal b table) acts e → Moves s (at now (events.Refused table) acts) e
refused_moves true s e now table acts goes = inl (events.Refused table, acts, goes, refl, refl)
refused_moves false s e now table acts goes = inl (events.Settled table settles.Older, acts, goes, refl, refl)

forgetting_alike : (left : List ℕ) (s : SessionState) → IsAlike s (forgetting left s)
forgetting_alike [] s = (refl, refl, refl, refl)
forgetting_alike (table ∷ tables) s = (refl, refl, refl, refl)

same_silent : (s e : StandingState) (now : ℕ) (left : List ℕ) (acts : List Action) → acts ≡ [] → e ≡ s → IsSilent s.session (at now events.Tick acts) e.session
same_silent s e now left acts none same =
    let session : e.session ≡ s.session = ap (λ (x : StandingState). x.session) same in
    (alike_at s.session e.session s.session session (refl, refl, refl, refl), onward_same s.session.phase e.session.phase (ap (λ (x : SessionState). x.phase) session), unconfirmed acts [] none refl, refl)

tick_silent : (b : Bool) (phase : Phase) (s e : StandingState) (now : ℕ) (left : List ℕ) (acts : List Action) → s.session.phase ≡ phase → TicksIn b phase s now left acts e → IsSilent s.session (at now events.Tick acts) e.session
tick_silent true phase s e now left acts stands (none, is, ends, paces) =
    (alike_at s.session e.session _ ends (refl, refl, refl, refl), inl (ap (λ (x : SessionState). x.phase) ends), unconfirmed acts (actions.Close ∷ []) is refl, refl)
tick_silent false (phases.Open c) s e now left acts stands (leaves, is, goes, paces) = (
  alike_at s.session e.session _ goes (forgetting_alike left s.session),
  onward_open s.session.phase e.session.phase c (leaving left c).1 stands (ap (λ (x : SessionState). x.phase) goes),
  unconfirmed acts _ is (both_unconfirmed (leaving left c).0 (heartbeats (has_passed heartbeat_time s.pace.sent now)) (left_unconfirmed left c) (beats_unconfirmed _)),
  refl,
)
tick_silent false (phases.New hello c) s e now left acts stands (none, is, same) = same_silent s e now left acts is same
tick_silent false (phases.Hello greeter bytes c) s e now left acts stands (none, is, same) = same_silent s e now left acts is same
tick_silent false phases.Ended s e now left acts stands (none, is, same) = same_silent s e now left acts is same

ticks_silent : (s e : StandingState) (now : ℕ) (left : List ℕ) (rest acts : List Action) → Ticks s now left rest e → acts ≡ reopening left ++ rest → IsSilent s.session (at now events.Tick acts) e.session
ticks_silent s e now left rest acts (asked, ticks) is =
    let one = tick_silent (has_passed silence_time s.pace.heard now) s.session.phase s e now left rest refl ticks in
    (one.0, one.1, ap confirms is ∙ (after_reopening is_confirmation (λ table. refl) left rest ∙ one.2), refl)

word_moves : (b : Bool) (s e : SessionState) (now : ℕ) (acts : List Action) → Goes s (word_of b) acts e → Moves s (at now events.CaughtUp acts) e
word_moves true s e now acts goes = inl (events.Tick, acts, goes, refl, refl)
word_moves false s e now acts goes = inl (events.CaughtUp, acts, goes, refl, refl)

stands_moves : (event : Event) (s e : StandingState) (now : ℕ) (acts : List Action) → Stands s now event acts e → Moves s.session (at now event acts) e.session
stands_moves (events.Bytes bytes) s e now acts (goes, paces) = inl (events.Bytes bytes, acts, goes, refl, refl)
stands_moves events.Turn s e now acts turns = turn_moves s.session.phase s e now acts refl turns
stands_moves (events.Copied table batch) s e now acts (goes, paces) = inl (events.Copied table batch, acts, goes, refl, refl)
stands_moves (events.Written known) s e now acts writes = writes_moves s.session.phase s e now known acts refl writes
stands_moves (events.Refused table) s e now acts (goes, paces) = refused_moves (is_ahead table s.pace.progress) s.session e.session now table acts goes
stands_moves events.Opened s e now acts (goes, paces) = inl (events.Opened, acts, goes, refl, refl)
stands_moves events.Ask s e now acts (goes, paces) = inl (events.Ask, acts, goes, refl, refl)
stands_moves events.CaughtUp s e now acts (goes, paces) = word_moves (has_left s.pace.progress) s.session e.session now acts goes
stands_moves events.Tick s e now acts (asked, (left, rest, ticks, is)) = inr (ticks_silent s e now left rest acts (asked, ticks) is)
stands_moves events.End s e now acts (goes, paces) = inl (events.End, acts, goes, refl, refl)
stands_moves events.ReadFault s e now acts (goes, paces) = inl (events.ReadFault, acts, goes, refl, refl)
stands_moves events.WriteFault s e now acts (goes, paces) = inl (events.WriteFault, acts, goes, refl, refl)
stands_moves (events.Nothing table) s e now acts (goes, paces) = inl (events.Nothing table, acts, goes, refl, refl)
stands_moves (events.Settled table settled) s e now acts (goes, paces) = inl (events.Settled table settled, acts, goes, refl, refl)

pub happens_moves : (one : Happening) (s e : StandingState) → Happens s one e → Moves s.session one e.session
happens_moves one s e happens = stands_moves one.event s e one.now one.acts happens
