-- When a session that stays sends, and when it begins resyncs.
use Rattle.std.proofs.Common.{◌≡◌, ◌≢◌, ◌≤◌, ◌<◌, ◌⊎◌, ℕ, ◌+◌, ◌-◌, Bool, true, false, not, ◌&&◌, ◌||◌, cond, List, [], ◌∷◌, Option, Some, None, refl, sym, ap, ◌∙◌, subst, inl, inr, arith, ◌++◌}
use Rattle.std.specs.List.{list_any, AllByRecursion}
use Rattle.std.proofs.lemmas.Bool.{false≢true, leb-true, leb-false, lt-leb}
use Rattle.known_state.specs.Known.{KnownState}
use Rattle.session_core.specs.declared.action.Action.{Action}
use Rattle.session_core.specs.declared.action.Action.TheVariants as actions
use Rattle.session_core.specs.declared.event.Event.{Event}
use Rattle.session_core.specs.declared.event.Event.TheVariants as events
use Rattle.session_core.specs.declared.pace.Task.{Task}
use Rattle.session_core.specs.declared.pace.Task.TheVariants as tasks
use Rattle.session_core.specs.Phases.{Phase}
use Rattle.session_core.specs.Phases as phases
use Rattle.session_core.specs.Shares.{any_out}
use Rattle.session_core.specs.Courses.{Course, table_to_ask}
use Rattle.session_core.specs.Sessions.{SessionState}
use Rattle.session_core.specs.Paces.{Pace, renewed, has_passed, heartbeat_time, silence_time, push_time, is_rested, awaits_names, is_ahead, has_left}
use Rattle.session_core.specs.Standing.{StandingState, is_open, sends, is_send, HandsOn, Does, task_at, TakesTurn, Writes, answer_of_refusal, Stands, TicksIn, word_of, reopening}
use Rattle.session_core.specs.Actions.{is_heartbeat}
use Rattle.session_core.specs.Happenings.{Happening, IsSince, SendsAt, sent_by}
use Rattle.session_core.proofs.MachineRuns.{Ticks, Happens, Lasts}
use Rattle.session_core.proofs.TickGives.{after_reopening, tick_beats_if}

-- ---- when bytes were last sent

-- no action, so nothing sent
none_sent : (event : Event) (now before : ℕ) (acts : List Action) → sends event [] ≡ false → acts ≡ [] → renewed (sends event acts) now before ≡ before
none_sent event now before acts none is = rw (is, none) refl

same_then : (s e : StandingState) (event : Event) (now : ℕ) (acts : List Action) → sends event [] ≡ false → acts ≡ [] → e ≡ s → e.pace.sent ≡ renewed (sends event acts) now s.pace.sent
same_then s e event now acts none is same = ap (λ (x : StandingState). x.pace.sent) same ∙ sym (none_sent event now s.pace.sent acts none is)

sent_does : (task : Task) (s e : StandingState) (c : Course) (now : ℕ) (acts : List Action) → Does task s c now acts e → e.pace.sent ≡ renewed (sends events.Turn acts) now s.pace.sent
sent_does tasks.Copy s e c now acts (goes, paces) = ap (λ (p : Pace). p.sent) paces
sent_does tasks.Rest s e c now acts (due, is, same) = same_then s e events.Turn now acts refl is same
sent_does tasks.Begin s e c now acts (due, is, session, paces) = ap (λ (p : Pace). p.sent) paces

sent_turn : (phase : Phase) (s e : StandingState) (now : ℕ) (acts : List Action) → TakesTurn phase s now acts e → e.pace.sent ≡ renewed (sends events.Turn acts) now s.pace.sent
sent_turn (phases.Open c) s e now acts does = sent_does (task_at now s.pace c) s e c now acts does
sent_turn (phases.New hello c) s e now acts (goes, paces) = ap (λ (p : Pace). p.sent) paces
sent_turn (phases.Hello greeter bytes c) s e now acts (goes, paces) = ap (λ (p : Pace). p.sent) paces
sent_turn phases.Ended s e now acts (goes, paces) = ap (λ (p : Pace). p.sent) paces

sent_writes : (phase : Phase) (s e : StandingState) (now : ℕ) (known : KnownState) (acts : List Action) → Writes phase s now known acts e → e.pace.sent ≡ renewed (sends (events.Written known) acts) now s.pace.sent
sent_writes (phases.Open c) s e now known acts (goes, is, paces) = ap (λ (p : Pace). p.sent) paces
sent_writes (phases.New hello c) s e now known acts writes = absurd writes
sent_writes (phases.Hello greeter bytes c) s e now known acts writes = absurd writes
sent_writes phases.Ended s e now known acts writes = absurd writes

sent_refused : (ahead : Bool) (s e : StandingState) (now table : ℕ) (acts : List Action) → HandsOn s now (answer_of_refusal ahead table) acts e → e.pace.sent ≡ renewed (sends (events.Refused table) acts) now s.pace.sent
sent_refused true s e now table acts (goes, paces) = ap (λ (p : Pace). p.sent) paces
sent_refused false s e now table acts (goes, paces) = ap (λ (p : Pace). p.sent) paces

-- a tick that asks for nothing that sends
still_then : (before now : ℕ) (acts given : List Action) → list_any is_send given ≡ false → acts ≡ given → before ≡ renewed (list_any is_send acts) now before
still_then before now acts given none is = sym (rw (ap (list_any is_send) is ∙ none) refl)

sent_ticks : (silent : Bool) (phase : Phase) (s e : StandingState) (now : ℕ) (left : List ℕ) (acts : List Action) → TicksIn silent phase s now left acts e → e.pace.sent ≡ renewed (list_any is_send acts) now s.pace.sent
sent_ticks true phase s e now left acts (leaves, is, session, paces) = ap (λ (p : Pace). p.sent) paces ∙ still_then s.pace.sent now acts (actions.Close ∷ []) refl is
sent_ticks false (phases.Open c) s e now left acts (leaves, is, session, paces) = ap (λ (p : Pace). p.sent) paces
sent_ticks false (phases.New hello c) s e now left acts (leaves, is, same) = ap (λ (x : StandingState). x.pace.sent) same ∙ still_then s.pace.sent now acts [] refl is
sent_ticks false (phases.Hello greeter bytes c) s e now left acts (leaves, is, same) = ap (λ (x : StandingState). x.pace.sent) same ∙ still_then s.pace.sent now acts [] refl is
sent_ticks false phases.Ended s e now left acts (leaves, is, same) = ap (λ (x : StandingState). x.pace.sent) same ∙ still_then s.pace.sent now acts [] refl is

sends_after : (left : List ℕ) (rest : List Action) → list_any is_send (reopening left ++ rest) ≡ list_any is_send rest
sends_after left rest = after_reopening is_send (λ table. refl) left rest

sent_word : (b : Bool) (s e : StandingState) (now : ℕ) (acts : List Action) → HandsOn s now (word_of b) acts e → e.pace.sent ≡ renewed (sends events.CaughtUp acts) now s.pace.sent
sent_word true s e now acts (goes, paces) = ap (λ (p : Pace). p.sent) paces
sent_word false s e now acts (goes, paces) = ap (λ (p : Pace). p.sent) paces

sent_stands : (event : Event) (s e : StandingState) (now : ℕ) (acts : List Action) → Stands s now event acts e → e.pace.sent ≡ renewed (sends event acts) now s.pace.sent
sent_stands (events.Bytes bytes) s e now acts (goes, paces) = ap (λ (p : Pace). p.sent) paces
sent_stands events.Turn s e now acts turns = sent_turn s.session.phase s e now acts turns
sent_stands (events.Written known) s e now acts writes = sent_writes s.session.phase s e now known acts writes
sent_stands (events.Copied table batch) s e now acts (goes, paces) = ap (λ (p : Pace). p.sent) paces
sent_stands (events.Refused table) s e now acts hands = sent_refused (is_ahead table s.pace.progress) s e now table acts hands
sent_stands events.Opened s e now acts (goes, paces) = ap (λ (p : Pace). p.sent) paces
sent_stands events.Ask s e now acts (goes, paces) = ap (λ (p : Pace). p.sent) paces
sent_stands events.CaughtUp s e now acts hands = sent_word (has_left s.pace.progress) s e now acts hands
sent_stands events.Tick s e now acts (asked, (left, rest, ticks, is)) =
    sent_ticks _ s.session.phase s e now left rest ticks ∙ ap (λ (b : Bool). renewed b now s.pace.sent) (sym (ap (list_any is_send) is ∙ sends_after left rest))
sent_stands events.End s e now acts (goes, paces) = ap (λ (p : Pace). p.sent) paces
sent_stands events.ReadFault s e now acts (goes, paces) = ap (λ (p : Pace). p.sent) paces
sent_stands events.WriteFault s e now acts (goes, paces) = ap (λ (p : Pace). p.sent) paces
sent_stands (events.Nothing table) s e now acts (goes, paces) = ap (λ (p : Pace). p.sent) paces
sent_stands (events.Settled table settled) s e now acts (goes, paces) = ap (λ (p : Pace). p.sent) paces

pub last_sent : (s e : StandingState) (one : Happening) → Happens s one e → e.pace.sent ≡ sent_by one s.pace.sent
last_sent s e one happens = sent_stands one.event s e one.now one.acts happens

-- ---- no heartbeat is owed after a tick

-- a heartbeat is sent
beat_is_send : (acts : List Action) → list_any is_heartbeat acts ≡ true → list_any is_send acts ≡ true
beat_is_send [] beats = absurd (false≢true beats)
beat_is_send (actions.Send bytes ∷ acts) beats = refl
beat_is_send (actions.Ack table n ∷ acts) beats = beat_is_send acts beats
beat_is_send (actions.Learn u ∷ acts) beats = beat_is_send acts beats
beat_is_send (actions.Reopen table ∷ acts) beats = beat_is_send acts beats
beat_is_send (actions.Copy table kind ∷ acts) beats = beat_is_send acts beats
beat_is_send (actions.Teach batch ∷ acts) beats = beat_is_send acts beats
beat_is_send (actions.Part kind ∷ acts) beats = beat_is_send acts beats
beat_is_send (actions.Close ∷ acts) beats = beat_is_send acts beats

just_now : (now : ℕ) → has_passed heartbeat_time now now ≡ false
just_now now = let less : now - now < 3000 = omega arith in lt-leb 3000 (now - now) less

-- either the time hasn't passed, or the moment is now
not_owed : (b owed : Bool) (now before : ℕ) → has_passed heartbeat_time before now ≡ owed → (owed ≡ true → b ≡ true) → has_passed heartbeat_time (renewed b now before) now ≡ false
not_owed true owed now before is sends_then = just_now now
not_owed false true now before is sends_then = absurd (false≢true (sends_then refl))
not_owed false false now before is sends_then = is

open_at : (e x : SessionState) → e ≡ x → is_open e.phase ≡ true → is_open x.phase ≡ true
open_at e x is opened = subst (λ (y : SessionState). is_open y.phase ≡ true) is opened

is_open_same : (phase : Phase) (s e : StandingState) → s.session.phase ≡ phase → e ≡ s → is_open phase ≡ false → is_open e.session.phase ≡ true → ⊥
is_open_same phase s e stands same closed opened =
    false≢true (sym closed ∙ (sym (ap is_open stands) ∙ (sym (ap (λ (x : StandingState). is_open x.session.phase) same) ∙ opened)))

fresh_in : (silent : Bool) (phase : Phase) (s e : StandingState) (now : ℕ) (left : List ℕ) (acts : List Action) → s.session.phase ≡ phase → has_passed silence_time s.pace.heard now ≡ silent → Ticks s now left acts e → TicksIn silent phase s now left acts e → is_open e.session.phase ≡ true → has_passed heartbeat_time e.pace.sent now ≡ false
fresh_in true phase s e now left acts stands heard all (leaves, is, session, paces) opened = absurd (false≢true (open_at e.session _ session opened))
fresh_in false (phases.Open c) s e now left acts stands heard all (leaves, is, session, paces) opened =
    let beats : list_any is_heartbeat acts ≡ has_passed heartbeat_time s.pace.sent now = tick_beats_if s e now left acts all ∙ rw (heard, stands) refl in
    rw (ap (λ (p : Pace). p.sent) paces)
    (not_owed (list_any is_send acts) (has_passed heartbeat_time s.pace.sent now) now s.pace.sent refl (λ owed. beat_is_send acts (beats ∙ owed)))
fresh_in false (phases.New hello c) s e now left acts stands heard all (leaves, is, same) opened = absurd (is_open_same (phases.New hello c) s e stands same refl opened)
fresh_in false (phases.Hello greeter bytes c) s e now left acts stands heard all (leaves, is, same) opened = absurd (is_open_same (phases.Hello greeter bytes c) s e stands same refl opened)
fresh_in false phases.Ended s e now left acts stands heard all (leaves, is, same) opened = absurd (is_open_same phases.Ended s e stands same refl opened)

pub none_owed : (s e : StandingState) (now : ℕ) (left : List ℕ) (acts : List Action) → Ticks s now left acts e → is_open e.session.phase ≡ true → has_passed heartbeat_time e.pace.sent now ≡ false
none_owed s e now left acts (asked, ticks) opened = fresh_in _ s.session.phase s e now left acts refl refl (asked, ticks) ticks opened

-- ---- heartbeats are apart

since_renewed : (b : Bool) (m now before : ℕ) → m ≤ now → m ≤ before → m ≤ renewed b now before
since_renewed true m now before then was = then
since_renewed false m now before then was = was

since_one : (one : Happening) (m before : ℕ) → IsSince m one → m ≤ before → m ≤ sent_by one before
since_one one m before since was = since_renewed (sends one.event one.acts) m one.now before since was

-- since bytes were sent, they were last sent then or later
since_lasts : (steps : List Happening) (s e : StandingState) (m : ℕ) → m ≤ s.pace.sent → AllByRecursion (IsSince m) steps → Lasts s steps e → m ≤ e.pace.sent
since_lasts [] s e m was since here = subst (λ (x : StandingState). m ≤ x.pace.sent) (sym here) was
since_lasts (one ∷ steps) s e m was since (mid, happens, lasts) =
    since_lasts steps mid e m (subst (λ (x : ℕ). m ≤ x) (sym (last_sent s mid one happens)) (since_one one m s.pace.sent since.0 was)) since.1 lasts

renewed_then : (b : Bool) (m now before : ℕ) → now ≡ m → b ≡ true → m ≤ renewed b now before
renewed_then b m now before is so = rw so (omega arith)

sent_at_least : (one : Happening) (m before : ℕ) → SendsAt m one → m ≤ sent_by one before
sent_at_least one m before (is, so) = renewed_then (sends one.event one.acts) m one.now before is so

and_last : (a b c : Bool) → (a && (b && c)) ≡ true → c ≡ true
and_last true true c so = so
and_last true false c so = absurd (false≢true so)
and_last false b c so = absurd (false≢true so)

passed_since : (m sent n : ℕ) → m ≤ sent → has_passed heartbeat_time sent n ≡ true → m + 3000 ≤ n
passed_since m sent n since passed = let long : 3000 ≤ n - sent = leb-true 3000 (n - sent) passed in omega arith

pub beats_apart : (s t u e : StandingState) (one : Happening) (steps : List Happening) (m n : ℕ) (left : List ℕ) (acts : List Action) → Happens s one t → SendsAt m one → Lasts t steps u → AllByRecursion (IsSince m) steps → Ticks u n left acts e → list_any is_heartbeat acts ≡ true → m + heartbeat_time ≤ n
beats_apart s t u e one steps m n left acts happens sent lasts since ticks beats =
    let then : m ≤ t.pace.sent = subst (λ (x : ℕ). m ≤ x) (sym (last_sent s t one happens)) (sent_at_least one m s.pace.sent sent) in
    passed_since m u.pace.sent n (since_lasts steps t u m then since lasts)
    (and_last _ _ _ (sym (tick_beats_if u e n left acts ticks) ∙ beats))

-- ---- a session that ticks isn't silent

-- bytes were last sent at a moment, or since another
abbrev IsSentBy : ℕ → ℕ → ℕ → Type 0
IsSentBy sent m now = (sent ≡ now) ⊎ (m ≤ now)

later_renewed : (b : Bool) (m sent now before : ℕ) → m ≤ now → IsSentBy sent m before → IsSentBy sent m (renewed b now before)
later_renewed true m sent now before then was = inr then
later_renewed false m sent now before then was = was

later_one : (one : Happening) (m sent before : ℕ) → IsSince m one → IsSentBy sent m before → IsSentBy sent m (sent_by one before)
later_one one m sent before since was = later_renewed (sends one.event one.acts) m sent one.now before since was

later_lasts : (steps : List Happening) (s e : StandingState) (m sent : ℕ) → IsSentBy sent m s.pace.sent → AllByRecursion (IsSince m) steps → Lasts s steps e → IsSentBy sent m e.pace.sent
later_lasts [] s e m sent was since here = subst (λ (x : StandingState). IsSentBy sent m x.pace.sent) (sym here) was
later_lasts (one ∷ steps) s e m sent was since (mid, happens, lasts) =
    later_lasts steps mid e m sent (subst (IsSentBy sent m) (sym (last_sent s mid one happens)) (later_one one m sent s.pace.sent since.0 was)) since.1 lasts

not_long : (sent m : ℕ) → has_passed heartbeat_time sent m ≡ false → m < sent + 3000
not_long sent m owed = let short : m - sent < 3000 = leb-false 3000 (m - sent) owed in omega arith

within : (sent m n d now : ℕ) → m < sent + 3000 → n ≤ m + d → IsSentBy sent m now → n < now + (3000 + d)
within sent m n d now short soon (inl same) = omega arith
within sent m n d now short soon (inr later) = omega arith

pub not_silent : (s t u : StandingState) (steps : List Happening) (m n d : ℕ) (left : List ℕ) (acts : List Action) → Ticks s m left acts t → is_open t.session.phase ≡ true → Lasts t steps u → AllByRecursion (IsSince m) steps → n ≤ m + d → n < u.pace.sent + (heartbeat_time + d)
not_silent s t u steps m n d left acts ticks opened lasts since soon =
    within t.pace.sent m n d u.pace.sent (not_long t.pace.sent m (none_owed s t m left acts ticks opened)) soon
    (later_lasts steps t u m t.pace.sent (inl refl) since lasts)

-- ---- resyncs are apart

-- a resync begins, and the last one began long enough ago; or none does
abbrev IsRestedOr : StandingState → ℕ → StandingState → Type 0
IsRestedOr s now e = (e.pace.reopened ≡ s.pace.reopened) ⊎ ((is_rested s.pace.reopened now ≡ true) × (e.pace.reopened ≡ Some now))

never_begins : (b : Bool) → cond b tasks.Copy tasks.Rest ≡ tasks.Begin → ⊥
never_begins true is = cc
never_begins false is = cc

pub begins_rested : (waits rested out may : Bool) → cond (waits && rested) (cond out tasks.Rest tasks.Begin) (cond may tasks.Copy tasks.Rest) ≡ tasks.Begin → rested ≡ true
begins_rested true true out may is = refl
begins_rested true false out may is = absurd (never_begins may is)
begins_rested false rested out may is = absurd (never_begins may is)

rested_does : (task : Task) (s e : StandingState) (c : Course) (now : ℕ) (acts : List Action) → task_at now s.pace c ≡ task → Does task s c now acts e → IsRestedOr s now e
rested_does tasks.Copy s e c now acts is (goes, paces) = inl (ap (λ (p : Pace). p.reopened) paces)
rested_does tasks.Rest s e c now acts is (due, none, same) = inl (ap (λ (x : StandingState). x.pace.reopened) same)
rested_does tasks.Begin s e c now acts is (due, begun, session, paces) = inr (
  begins_rested c.waits (is_rested s.pace.reopened now) (any_out c.shares) ((c.teaching || has_passed push_time s.pace.opened now) && not (awaits_names (table_to_ask c) s.pace.progress c.shares)) is,
  ap (λ (p : Pace). p.reopened) paces,
)

rested_turn : (phase : Phase) (s e : StandingState) (now : ℕ) (acts : List Action) → TakesTurn phase s now acts e → IsRestedOr s now e
rested_turn (phases.Open c) s e now acts does = rested_does (task_at now s.pace c) s e c now acts refl does
rested_turn (phases.New hello c) s e now acts (goes, paces) = inl (ap (λ (p : Pace). p.reopened) paces)
rested_turn (phases.Hello greeter bytes c) s e now acts (goes, paces) = inl (ap (λ (p : Pace). p.reopened) paces)
rested_turn phases.Ended s e now acts (goes, paces) = inl (ap (λ (p : Pace). p.reopened) paces)

rested_writes : (phase : Phase) (s e : StandingState) (now : ℕ) (known : KnownState) (acts : List Action) → Writes phase s now known acts e → IsRestedOr s now e
rested_writes (phases.Open c) s e now known acts (goes, is, paces) = inl (ap (λ (p : Pace). p.reopened) paces)
rested_writes (phases.New hello c) s e now known acts writes = absurd writes
rested_writes (phases.Hello greeter bytes c) s e now known acts writes = absurd writes
rested_writes phases.Ended s e now known acts writes = absurd writes

ticks_reopened : (silent : Bool) (phase : Phase) (s e : StandingState) (now : ℕ) (left : List ℕ) (acts : List Action) → TicksIn silent phase s now left acts e → e.pace.reopened ≡ s.pace.reopened
ticks_reopened true phase s e now left acts (leaves, is, session, paces) = ap (λ (p : Pace). p.reopened) paces
ticks_reopened false (phases.Open c) s e now left acts (leaves, is, session, paces) = ap (λ (p : Pace). p.reopened) paces
ticks_reopened false (phases.New hello c) s e now left acts (leaves, is, same) = ap (λ (x : StandingState). x.pace.reopened) same
ticks_reopened false (phases.Hello greeter bytes c) s e now left acts (leaves, is, same) = ap (λ (x : StandingState). x.pace.reopened) same
ticks_reopened false phases.Ended s e now left acts (leaves, is, same) = ap (λ (x : StandingState). x.pace.reopened) same

rested_stands : (event : Event) (s e : StandingState) (now : ℕ) (acts : List Action) → Stands s now event acts e → IsRestedOr s now e
rested_stands (events.Bytes bytes) s e now acts (goes, paces) = inl (ap (λ (p : Pace). p.reopened) paces)
rested_stands events.Turn s e now acts turns = rested_turn s.session.phase s e now acts turns
rested_stands (events.Written known) s e now acts writes = rested_writes s.session.phase s e now known acts writes
rested_stands (events.Copied table batch) s e now acts (goes, paces) = inl (ap (λ (p : Pace). p.reopened) paces)
rested_stands (events.Refused table) s e now acts (goes, paces) = inl (ap (λ (p : Pace). p.reopened) paces)
rested_stands events.Opened s e now acts (goes, paces) = inl (ap (λ (p : Pace). p.reopened) paces)
rested_stands events.Ask s e now acts (goes, paces) = inl (ap (λ (p : Pace). p.reopened) paces)
rested_stands events.CaughtUp s e now acts (goes, paces) = inl (ap (λ (p : Pace). p.reopened) paces)
rested_stands events.Tick s e now acts (asked, (left, rest, ticks, is)) = inl (ticks_reopened _ s.session.phase s e now left rest ticks)
rested_stands events.End s e now acts (goes, paces) = inl (ap (λ (p : Pace). p.reopened) paces)
rested_stands events.ReadFault s e now acts (goes, paces) = inl (ap (λ (p : Pace). p.reopened) paces)
rested_stands events.WriteFault s e now acts (goes, paces) = inl (ap (λ (p : Pace). p.reopened) paces)
rested_stands (events.Nothing table) s e now acts (goes, paces) = inl (ap (λ (p : Pace). p.reopened) paces)
rested_stands (events.Settled table settled) s e now acts (goes, paces) = inl (ap (λ (p : Pace). p.reopened) paces)

pub begins_if_rested : (s e : StandingState) (now : ℕ) (event : Event) (acts : List Action) → Stands s now event acts e → e.pace.reopened ≢ s.pace.reopened → is_rested s.pace.reopened now ≡ true
begins_if_rested s e now event acts stands begins = elim (rested_stands event s e now acts stands) [
  | inl same ↦ absurd (begins same)
  | inr rested ↦ rested.0
]

-- a resync began at the moment or later
abbrev pub IsBegunSince : ℕ → Option ℕ → Type 0
IsBegunSince m None = ⊥
IsBegunSince m (Some began) = m ≤ began

begun_or : (s e : StandingState) (m now : ℕ) → m ≤ now → IsBegunSince m s.pace.reopened → IsRestedOr s now e → IsBegunSince m e.pace.reopened
begun_or s e m now since was (inl same) = subst (IsBegunSince m) (sym same) was
begun_or s e m now since was (inr (rested, is)) = subst (IsBegunSince m) (sym is) since

begun_one : (one : Happening) (s e : StandingState) (m : ℕ) → IsSince m one → IsBegunSince m s.pace.reopened → Happens s one e → IsBegunSince m e.pace.reopened
begun_one one s e m since was happens = begun_or s e m one.now since was (rested_stands one.event s e one.now one.acts happens)

pub begun_lasts : (steps : List Happening) (s e : StandingState) (m : ℕ) → IsBegunSince m s.pace.reopened → AllByRecursion (IsSince m) steps → Lasts s steps e → IsBegunSince m e.pace.reopened
begun_lasts [] s e m was since here = subst (λ (x : StandingState). IsBegunSince m x.pace.reopened) (sym here) was
begun_lasts (one ∷ steps) s e m was since (mid, happens, lasts) = begun_lasts steps mid e m (begun_one one s mid m since.0 was happens) since.1 lasts

pub rested_since : (m n : ℕ) (o : Option ℕ) → IsBegunSince m o → is_rested o n ≡ true → m + 1000 ≤ n
rested_since m n None since rested = absurd since
rested_since m n (Some began) since rested = let long : 1000 ≤ n - began = leb-true 1000 (n - began) rested in omega arith
