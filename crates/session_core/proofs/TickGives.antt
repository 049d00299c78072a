-- What a tick gives.
use Rattle.std.proofs.Common.{◌≡◌, ℕ, Bool, true, false, not, ◌&&◌, List, [], ◌∷◌, refl, ap, ◌∙◌, subst, inl, inr, sym, ◌⊎◌, ◌++◌, ◌||◌, ◌==◌}
use Rattle.std.proofs.lemmas.Bool.{false≢true}
use Rattle.std.specs.List.{list_any, list_all}
use Rattle.std.proofs.lemmas.List.Folds.{list_any-append, list_all-append}
use Rattle.session_core.specs.declared.action.Action.{Action}
use Rattle.session_core.specs.Phases.{Phase}
use Rattle.session_core.specs.Phases as phases
use Rattle.session_core.specs.Shares.{all_quiet}
use Rattle.session_core.specs.Courses.{Course}
use Rattle.session_core.specs.Paces.{has_passed, heartbeat_time, silence_time, tables_to_leave}
use Rattle.session_core.specs.Standing.{StandingState, any_left, is_open, is_reopen, finished_if, reopening, without_tables, leaving, heartbeats, word_of, TicksIn}
use Rattle.session_core.specs.Actions.{is_heartbeat}
use Rattle.session_core.specs.Happenings.{is_close, is_of_tick, is_tick, reopened_in}
use Rattle.session_core.specs.Runs.{reopened}
use Rattle.session_core.specs.Sessions.{is_asked}
use Rattle.session_core.specs.declared.action.Action.TheVariants as actions
use Rattle.session_core.specs.declared.event.Event.{Event}
use Rattle.session_core.specs.declared.event.Event.TheVariants as events
use Rattle.session_core.proofs.MachineRuns.{Ticks}

-- ---- each part of what an open session gives

close_end : (b : Bool) (c : Course) → c.up_to_date ≡ false → list_any is_close (finished_if b c).0 ≡ false
close_end true c up = refl
close_end false c up = refl

beat_end : (b : Bool) (c : Course) → c.up_to_date ≡ false → list_any is_heartbeat (finished_if b c).0 ≡ false
beat_end true c up = rw up refl
beat_end false c up = refl

tick_end : (b : Bool) (c : Course) → c.up_to_date ≡ false → list_all is_of_tick (finished_if b c).0 ≡ true
tick_end true c up = rw up refl
tick_end false c up = refl

close_leaving : (left : List ℕ) (c : Course) → list_any is_close (leaving left c).0 ≡ false
close_leaving [] c = refl
close_leaving (table ∷ tables) c =
    let d : Course = without_tables (table ∷ tables) c in
    close_end (d.teaching && all_quiet d.shares) d refl

beat_leaving : (left : List ℕ) (c : Course) → list_any is_heartbeat (leaving left c).0 ≡ false
beat_leaving [] c = refl
beat_leaving (table ∷ tables) c =
    let d : Course = without_tables (table ∷ tables) c in
    beat_end (d.teaching && all_quiet d.shares) d refl

tick_leaving : (left : List ℕ) (c : Course) → list_all is_of_tick (leaving left c).0 ≡ true
tick_leaving [] c = refl
tick_leaving (table ∷ tables) c =
    let d : Course = without_tables (table ∷ tables) c in
    tick_end (d.teaching && all_quiet d.shares) d refl

close_beats : (b : Bool) → list_any is_close (heartbeats b) ≡ false
close_beats true = refl
close_beats false = refl

beat_beats : (b : Bool) → list_any is_heartbeat (heartbeats b) ≡ b
beat_beats true = refl
beat_beats false = refl

tick_beats : (b : Bool) → list_all is_of_tick (heartbeats b) ≡ true
tick_beats true = refl
tick_beats false = refl

-- ---- ticks

closes_in : (silent : Bool) (phase : Phase) (s e : StandingState) (now : ℕ) (left : List ℕ) (acts : List Action) → TicksIn silent phase s now left acts e → list_any is_close acts ≡ silent
closes_in true phase s e now left acts (leaves, is, session, pace) = ap (list_any is_close) is
closes_in false (phases.Open c) s e now left acts (leaves, is, session, pace) =
    ap (list_any is_close) is
    ∙ (list_any-append is_close (leaving left c).0 (heartbeats (has_passed heartbeat_time s.pace.sent now))
    ∙ rw (close_leaving left c) (close_beats (has_passed heartbeat_time s.pace.sent now)))
closes_in false (phases.New hello c) s e now left acts (leaves, is, same) = ap (list_any is_close) is
closes_in false (phases.Hello greeter bytes c) s e now left acts (leaves, is, same) = ap (list_any is_close) is
closes_in false phases.Ended s e now left acts (leaves, is, same) = ap (list_any is_close) is

beats_in : (silent : Bool) (phase : Phase) (s e : StandingState) (now : ℕ) (left : List ℕ) (acts : List Action) → TicksIn silent phase s now left acts e → list_any is_heartbeat acts ≡ (not silent && (is_open phase && has_passed heartbeat_time s.pace.sent now))
beats_in true phase s e now left acts (leaves, is, session, pace) = ap (list_any is_heartbeat) is
beats_in false (phases.Open c) s e now left acts (leaves, is, session, pace) =
    ap (list_any is_heartbeat) is
    ∙ (list_any-append is_heartbeat (leaving left c).0 (heartbeats (has_passed heartbeat_time s.pace.sent now))
    ∙ rw (beat_leaving left c) (beat_beats (has_passed heartbeat_time s.pace.sent now)))
beats_in false (phases.New hello c) s e now left acts (leaves, is, same) = ap (list_any is_heartbeat) is
beats_in false (phases.Hello greeter bytes c) s e now left acts (leaves, is, same) = ap (list_any is_heartbeat) is
beats_in false phases.Ended s e now left acts (leaves, is, same) = ap (list_any is_heartbeat) is

others_in : (silent : Bool) (phase : Phase) (s e : StandingState) (now : ℕ) (left : List ℕ) (acts : List Action) → TicksIn silent phase s now left acts e → list_all is_of_tick acts ≡ true
others_in true phase s e now left acts (leaves, is, session, pace) = ap (list_all is_of_tick) is
others_in false (phases.Open c) s e now left acts (leaves, is, session, pace) =
    ap (list_all is_of_tick) is
    ∙ (list_all-append is_of_tick (leaving left c).0 (heartbeats (has_passed heartbeat_time s.pace.sent now))
    ∙ rw (tick_leaving left c) (tick_beats (has_passed heartbeat_time s.pace.sent now)))
others_in false (phases.New hello c) s e now left acts (leaves, is, same) = ap (list_all is_of_tick) is
others_in false (phases.Hello greeter bytes c) s e now left acts (leaves, is, same) = ap (list_all is_of_tick) is
others_in false phases.Ended s e now left acts (leaves, is, same) = ap (list_all is_of_tick) is

pub tick_closes : (s e : StandingState) (now : ℕ) (left : List ℕ) (acts : List Action) → Ticks s now left acts e → list_any is_close acts ≡ has_passed silence_time s.pace.heard now
tick_closes s e now left acts (asked, ticks) = closes_in (has_passed silence_time s.pace.heard now) s.session.phase s e now left acts ticks

pub tick_beats_if : (s e : StandingState) (now : ℕ) (left : List ℕ) (acts : List Action) → Ticks s now left acts e → list_any is_heartbeat acts ≡ (not (has_passed silence_time s.pace.heard now) && (is_open s.session.phase && has_passed heartbeat_time s.pace.sent now))
tick_beats_if s e now left acts (asked, ticks) = beats_in (has_passed silence_time s.pace.heard now) s.session.phase s e now left acts ticks

pub tick_gives_no_more : (s e : StandingState) (now : ℕ) (left : List ℕ) (acts : List Action) → Ticks s now left acts e → list_all is_of_tick acts ≡ true
tick_gives_no_more s e now left acts (asked, ticks) = others_in (has_passed silence_time s.pace.heard now) s.session.phase s e now left acts ticks

leaves_in : (silent : Bool) (phase : Phase) (c : Course) (s e : StandingState) (now : ℕ) (left : List ℕ) (acts : List Action) → silent ≡ false → phase ≡ phases.Open c → TicksIn silent phase s now left acts e → left ≡ tables_to_leave now s.pace.progress c.shares
leaves_in silent phase c s e now left acts heard stands ticks =
    (subst (λ (b : Bool). TicksIn b (phases.Open c) s now left acts e) heard (subst (λ (x : Phase). TicksIn silent x s now left acts e) stands ticks)).0

pub tick_leaves : (s e : StandingState) (c : Course) (now : ℕ) (left : List ℕ) (acts : List Action) → Ticks s now left acts e → has_passed silence_time s.pace.heard now ≡ false → s.session.phase ≡ phases.Open c → left ≡ tables_to_leave now s.pace.progress c.shares
tick_leaves s e c now left acts (asked, ticks) heard stands = leaves_in (has_passed silence_time s.pace.heard now) s.session.phase c s e now left acts heard stands ticks

-- ---- tables that are reopened before anything else

-- actions that aren't reopenings are those of the rest
pub after_reopening : (P : Action → Bool) → ((table : ℕ) → P (actions.Reopen table) ≡ false) → (left : List ℕ) (rest : List Action) → list_any P (reopening left ++ rest) ≡ list_any P rest
after_reopening P none [] rest = refl
after_reopening P none (table ∷ left) rest = rw (none table) (after_reopening P none left rest)

pub none_reopening : (P : Action → Bool) → ((table : ℕ) → P (actions.Reopen table) ≡ false) → (left : List ℕ) → list_any P (reopening left) ≡ false
none_reopening P none [] = refl
none_reopening P none (table ∷ left) = rw (none table) (none_reopening P none left)

reopen_end : (b : Bool) (c : Course) → list_any is_reopen (finished_if b c).0 ≡ false
reopen_end true c = refl
reopen_end false c = refl

reopen_leaving : (left : List ℕ) (c : Course) → list_any is_reopen (leaving left c).0 ≡ false
reopen_leaving [] c = refl
reopen_leaving (table ∷ tables) c =
    let d : Course = without_tables (table ∷ tables) c in
    reopen_end (d.teaching && all_quiet d.shares) d

reopen_beats : (b : Bool) → list_any is_reopen (heartbeats b) ≡ false
reopen_beats true = refl
reopen_beats false = refl

-- the rest reopens nothing
pub rest_reopens : (silent : Bool) (phase : Phase) (s e : StandingState) (now : ℕ) (left : List ℕ) (rest : List Action) → TicksIn silent phase s now left rest e → list_any is_reopen rest ≡ false
rest_reopens true phase s e now left rest (leaves, is, session, pace) = ap (list_any is_reopen) is
rest_reopens false (phases.Open c) s e now left rest (leaves, is, session, pace) =
    ap (list_any is_reopen) is
    ∙ (list_any-append is_reopen (leaving left c).0 (heartbeats (has_passed heartbeat_time s.pace.sent now))
    ∙ rw (reopen_leaving left c) (reopen_beats (has_passed heartbeat_time s.pace.sent now)))
rest_reopens false (phases.New hello c) s e now left rest (leaves, is, same) = ap (list_any is_reopen) is
rest_reopens false (phases.Hello greeter bytes c) s e now left rest (leaves, is, same) = ap (list_any is_reopen) is
rest_reopens false phases.Ended s e now left rest (leaves, is, same) = ap (list_any is_reopen) is

none_in : (xs : List Action) → list_any is_reopen xs ≡ false → reopened_in xs ≡ []
none_in [] none = refl
none_in (actions.Send bytes ∷ xs) none = none_in xs none
none_in (actions.Ack table n ∷ xs) none = none_in xs none
none_in (actions.Learn u ∷ xs) none = none_in xs none
none_in (actions.Reopen table ∷ xs) none = absurd (false≢true (sym none))
none_in (actions.Copy table kind ∷ xs) none = none_in xs none
none_in (actions.Teach batch ∷ xs) none = none_in xs none
none_in (actions.Part kind ∷ xs) none = none_in xs none
none_in (actions.Close ∷ xs) none = none_in xs none

reopened_first : (left : List ℕ) (rest : List Action) → reopened_in rest ≡ [] → reopened_in (reopening left ++ rest) ≡ left
reopened_first [] rest none = none
reopened_first (table ∷ left) rest none = ap (λ (xs : List ℕ). table ∷ xs) (reopened_first left rest none)

-- a tick reopens the tables that it leaves
pub reopens_left : (silent : Bool) (phase : Phase) (s e : StandingState) (now : ℕ) (left : List ℕ) (rest acts : List Action) → TicksIn silent phase s now left rest e → acts ≡ reopening left ++ rest → reopened_in acts ≡ left
reopens_left silent phase s e now left rest acts ticks is = ap reopened_in is ∙ reopened_first left rest (none_in rest (rest_reopens silent phase s e now left rest ticks))

-- whether a table is reopened
pub is_reopened : (t : ℕ) (xs : List Action) → list_any (λ table. table == t) (reopened_in xs) ≡ reopened t xs
is_reopened t [] = refl
is_reopened t (actions.Send bytes ∷ xs) = is_reopened t xs
is_reopened t (actions.Ack table n ∷ xs) = is_reopened t xs
is_reopened t (actions.Learn u ∷ xs) = is_reopened t xs
is_reopened t (actions.Reopen table ∷ xs) = ap (λ (b : Bool). (table == t) || b) (is_reopened t xs)
is_reopened t (actions.Copy table kind ∷ xs) = is_reopened t xs
is_reopened t (actions.Teach batch ∷ xs) = is_reopened t xs
is_reopened t (actions.Part kind ∷ xs) = is_reopened t xs
is_reopened t (actions.Close ∷ xs) = is_reopened t xs

pub left_reopened : (t : ℕ) (silent : Bool) (phase : Phase) (s e : StandingState) (now : ℕ) (left : List ℕ) (rest acts : List Action) → TicksIn silent phase s now left rest e → acts ≡ reopening left ++ rest → reopened t acts ≡ list_any (λ table. table == t) left
left_reopened t silent phase s e now left rest acts ticks is =
    sym (is_reopened t acts) ∙ ap (list_any (λ table. table == t)) (reopens_left silent phase s e now left rest acts ticks is)

any_first : (left : List ℕ) (rest : List Action) → list_any is_reopen rest ≡ false → list_any is_reopen (reopening left ++ rest) ≡ any_left left
any_first [] rest none = none
any_first (table ∷ left) rest none = refl

pub any_reopened : (silent : Bool) (phase : Phase) (s e : StandingState) (now : ℕ) (left : List ℕ) (rest acts : List Action) → TicksIn silent phase s now left rest e → acts ≡ reopening left ++ rest → list_any is_reopen acts ≡ any_left left
any_reopened silent phase s e now left rest acts ticks is =
    ap (list_any is_reopen) is ∙ any_first left rest (rest_reopens silent phase s e now left rest ticks)

all_reopening : (left : List ℕ) → list_all is_of_tick (reopening left) ≡ true
all_reopening [] = refl
all_reopening (table ∷ left) = all_reopening left

pub all_of_tick : (left : List ℕ) (rest : List Action) → list_all is_of_tick rest ≡ true → list_all is_of_tick (reopening left ++ rest) ≡ true
all_of_tick left rest all = list_all-append is_of_tick (reopening left) rest ∙ rw (all_reopening left) all

-- ---- an event is a tick, or it isn't

pub tick_or_not : (event : Event) → (event ≡ events.Tick) ⊎ (is_tick event ≡ false)
tick_or_not events.Tick = inl refl
tick_or_not events.Opened = inr refl
tick_or_not (events.Bytes bytes) = inr refl
tick_or_not events.End = inr refl
tick_or_not events.ReadFault = inr refl
tick_or_not events.Turn = inr refl
tick_or_not events.Ask = inr refl
tick_or_not events.CaughtUp = inr refl
tick_or_not (events.Copied table batch) = inr refl
tick_or_not (events.Nothing table) = inr refl
tick_or_not (events.Written known) = inr refl
tick_or_not events.WriteFault = inr refl
tick_or_not (events.Settled table settled) = inr refl
tick_or_not (events.Refused table) = inr refl

pub is_of_tick_event : (event : Event) → is_tick event ≡ true → event ≡ events.Tick
is_of_tick_event event is = elim (tick_or_not event) [
  | inl same ↦ same
  | inr other ↦ absurd (false≢true (sym other ∙ is))
]

-- ---- word that this node is up to date

pub asked_word : (phase : Phase) (b : Bool) → is_asked phase (word_of b) ≡ is_asked phase events.CaughtUp
asked_word (phases.New hello c) true = refl
asked_word (phases.New hello c) false = refl
asked_word (phases.Hello greeter bytes c) true = refl
asked_word (phases.Hello greeter bytes c) false = refl
asked_word (phases.Open c) true = refl
asked_word (phases.Open c) false = refl
asked_word phases.Ended true = refl
asked_word phases.Ended false = refl
