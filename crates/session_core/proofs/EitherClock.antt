-- Laws about what depends on the clock and about tables, of a session of either manner.
use Rattle.std.proofs.Common.{◌≡◌, ◌≢◌, ◌≤◌, ◌<◌, ◌+◌, ◌⊎◌, ◌&&◌, ◌||◌, not, ℕ, Bool, true, false, List, [], ◌∷◌, ◌++◌, Some, None, Option, refl, sym, ap, ◌∙◌, subst, inl, inr, cond}
use Rattle.std.specs.List.{list_any, list_all, AllByRecursion}
use Rattle.std.proofs.lemmas.Bool.{false≢true}
use Rattle.table_types.specs.Tables.{Definition}
use Rattle.table_types.specs.declared.version.Version.TheVariants as versions
use Rattle.known_state.specs.Known.{without_names}
use Rattle.session_core.specs.declared.action.Action.{Action}
use Rattle.session_core.specs.declared.action.Action.TheVariants as actions
use Rattle.session_core.specs.declared.counts.Counts.{Counts}
use Rattle.session_core.specs.declared.event.Event.{Event}
use Rattle.session_core.specs.declared.event.Event.TheVariants as events
use Rattle.session_core.specs.declared.heard.Heard.{Heard}
use Rattle.session_core.specs.Phases.{Phase}
use Rattle.session_core.specs.Phases as phases
use Rattle.session_core.specs.Shares.{is_out}
use Rattle.session_core.specs.Actions.{is_heartbeat}
use Rattle.session_core.specs.AskedCounts.{asked_as}
use Rattle.session_core.specs.Courses.{Course, table_to_ask}
use Rattle.session_core.specs.HeardCounts.{CountsEvent}
use Rattle.session_core.specs.Manners.{Manner}
use Rattle.session_core.specs.Manners as manners
use Rattle.session_core.specs.Paces.{Pace, has_passed, heartbeat_time, silence_time, resync_time, is_rested, tables_to_leave, stores_names, may_lose_names}
use Rattle.session_core.specs.Standing.{StandingState, Stands, any_left, is_open, is_reopen, reopening, shared}
use Rattle.session_core.specs.Keeping.{KeptSession, Steps, StepsAs, is_staying, progress_in, standing}
use Rattle.session_core.specs.Sessions.{Goes, GoesIn, SessionState, Turns}
use Rattle.session_core.specs.Runs.{copies, reopened}
use Rattle.session_core.specs.Happenings.{Begins, Happening, HasWork, IsIdle, IsSameButSent, IsSince, Lasts, SendsAt, Takes, acknowledges, beats, handed, is_about, is_close, is_of_tick, is_quiet, is_tick, leaves, reopened_in, resent, sent_by, settles_all, was_acknowledged, was_left, without_ticks}
use Rattle.session_core.proofs.MachineRuns.{Ticks}
use Rattle.session_core.proofs.KeepingLaws.{Ran, never_both, plain_lasts, plain_step, ran, same_pace, staying_lasts, staying_step}
use Rattle.session_core.proofs.EitherRuns.{never_in_run, plain_tick}
use Rattle.session_core.proofs.AsksFree.{IsFreeIn, free_at, plain_free_at}
use Rattle.session_core.proofs.LeftForGood.{left_for_good}
use Rattle.session_core.proofs.NamesKept.{names_are_forgotten, names_go_alone}
use Rattle.session_core.proofs.OnlyTurnsCopy.{goes_copy, only_turns_copy}
use Rattle.session_core.proofs.ReopensApart.{reopens_apart, reopens_as_it_opens}
use Rattle.session_core.proofs.StandingAcks.{acks_were_received, plain_acks_received}
use Rattle.session_core.proofs.StandingTicks.{idle_tick, stands_again}
use Rattle.session_core.proofs.StandingTimes.{begins_if_rested, beats_apart, last_sent, none_owed, not_silent}
use Rattle.session_core.proofs.StandingWork.{has_work}
use Rattle.session_core.proofs.StaysOut.{stays_out, stays_out_plain}
use Rattle.session_core.proofs.TickGives.{after_reopening, all_of_tick, any_reopened, reopens_left, tick_beats_if, tick_closes, tick_gives_no_more, tick_leaves, tick_or_not}

-- ---- one tick

-- a tick of a session that stays: the tables that it leaves, what it asks for beside reopening them, and its pace after it
abbrev TicksFrom : KeptSession → Pace → ℕ → List Action → KeptSession → Type 0
TicksFrom s p now acts e =
    (left : List ℕ)
    × (rest : List Action)
    × (q : Pace)
    × Ticks (standing s.session p) now left rest (standing e.session q)
    × (acts ≡ reopening left ++ rest)
    × (e.manner ≡ manners.Staying q)

stood_tick : (s e : KeptSession) (p q : Pace) (now : ℕ) (acts : List Action) → Stands (standing s.session p) now events.Tick acts (standing e.session q) → e.manner ≡ manners.Staying q → TicksFrom s p now acts e
stood_tick s e p q now acts (asked, (left, rest, ticks, acted)) stays = (left, rest, q, (asked, ticks), acted, stays)

tick_from : (s e : KeptSession) (p : Pace) (now : ℕ) (acts : List Action) → s.manner ≡ manners.Staying p → Steps s now events.Tick acts e → TicksFrom s p now acts e
tick_from s e p now acts is steps =
    let step = staying_step s e p now events.Tick acts is steps in
    stood_tick s e p step.0 now acts step.1 step.2

pub closes : (s e : KeptSession) (p : Pace) (now : ℕ) (acts : List Action) → s.manner ≡ manners.Staying p → Steps s now events.Tick acts e → list_any is_close acts ≡ has_passed silence_time p.heard now
closes s e p now acts is steps =
    let t = tick_from s e p now acts is steps in
    ap (list_any is_close) t.4 ∙ (after_reopening is_close (λ table. refl) t.0 t.1 ∙ tick_closes (standing s.session p) (standing e.session t.2) now t.0 t.1 t.3)

pub tick_reopens : (s e : KeptSession) (p : Pace) (c : Course) (now : ℕ) (acts : List Action) → s.manner ≡ manners.Staying p → Steps s now events.Tick acts e → has_passed silence_time p.heard now ≡ false → s.session.phase ≡ phases.Open c → reopened_in acts ≡ tables_to_leave now p.progress c.shares
tick_reopens s e p c now acts is steps heard stands =
    let t = tick_from s e p now acts is steps in
    reopens_left _ s.session.phase (standing s.session p) (standing e.session t.2) now t.0 t.1 acts t.3.1 t.4
    ∙ tick_leaves (standing s.session p) (standing e.session t.2) c now t.0 t.1 t.3 heard stands

pub tick_beats : (s e : KeptSession) (p : Pace) (now : ℕ) (acts : List Action) → s.manner ≡ manners.Staying p → Steps s now events.Tick acts e → list_any is_heartbeat acts ≡ (not (has_passed silence_time p.heard now) && (is_open s.session.phase && has_passed heartbeat_time p.sent now))
tick_beats s e p now acts is steps =
    let t = tick_from s e p now acts is steps in
    ap (list_any is_heartbeat) t.4 ∙ (after_reopening is_heartbeat (λ table. refl) t.0 t.1 ∙ tick_beats_if (standing s.session p) (standing e.session t.2) now t.0 t.1 t.3)

pub tick_plain : (s e : KeptSession) (now : ℕ) (acts : List Action) → s.manner ≡ manners.Plain → Steps s now events.Tick acts e → (acts ≡ []) × (e ≡ s)
tick_plain s e now acts is steps =
    let step = plain_step s e now events.Tick acts is steps in
    let ticks = plain_tick s.session.phase s.session e.session acts refl step.0 in
    (ticks.0, same_kept e s ticks.1 (step.1 ∙ sym is) steps.1 (steps.2 ∙ ap (λ (m : Manner). asked_as m acts s.counts) is))
  where
    kept_with : SessionState → Manner → Heard → Counts → KeptSession
    kept_with session manner heard counts = record { session = session; manner = manner; heard = heard; counts = counts }

    same_kept : (a b : KeptSession) → a.session ≡ b.session → a.manner ≡ b.manner → a.heard ≡ b.heard → a.counts ≡ b.counts → a ≡ b
    same_kept a b session manner heard counts =
        ap (λ (x : SessionState). kept_with x a.manner a.heard a.counts) session
        ∙ (ap (λ (x : Manner). kept_with b.session x a.heard a.counts) manner
        ∙ (ap (λ (x : Heard). kept_with b.session b.manner x a.counts) heard
        ∙ ap (λ (x : Counts). kept_with b.session b.manner b.heard x) counts))

only_as : (m : Manner) (s e : KeptSession) (now : ℕ) (acts : List Action) → s.manner ≡ m → Steps s now events.Tick acts e → list_all is_of_tick acts ≡ true
only_as manners.Plain s e now acts is steps = ap (list_all is_of_tick) (tick_plain s e now acts is steps).0
only_as (manners.Staying p) s e now acts is steps =
    let t = tick_from s e p now acts is steps in
    ap (list_all is_of_tick) t.4 ∙ all_of_tick t.0 t.1 (tick_gives_no_more (standing s.session p) (standing e.session t.2) now t.0 t.1 t.3)

pub tick_only : (s e : KeptSession) (now : ℕ) (acts : List Action) → Steps s now events.Tick acts e → list_all is_of_tick acts ≡ true
tick_only s e now acts steps = only_as s.manner s e now acts refl steps

-- ---- ticks that only keep the connection

none_then : (left : List ℕ) → any_left left ≡ false → left ≡ []
none_then [] none = refl
none_then (table ∷ tables) none = absurd (false≢true (sym none))

idle_as : (m : Manner) (s e : KeptSession) (now : ℕ) (acts : List Action) → s.manner ≡ m → Steps s now events.Tick acts e → list_any is_reopen acts ≡ false → list_any is_close acts ≡ false
    → IsSameButSent s e × (acts ≡ beats m s.session.phase now)
idle_as manners.Plain s e now acts is steps kept goes_on =
    let ticks = tick_plain s e now acts is steps in
    let manner : e.manner ≡ resent 0 s.manner = ap (λ (x : KeptSession). x.manner) ticks.1 ∙ (is ∙ sym (ap (resent 0) is)) in
    ((ap (λ (x : KeptSession). x.session) ticks.1, ap (λ (x : KeptSession). x.heard) ticks.1, (0, manner)), ticks.0)
idle_as (manners.Staying p) s e now acts is steps kept goes_on =
    let t = tick_from s e p now acts is steps in
    let none : t.0 ≡ [] = none_then t.0 (sym (any_reopened _ s.session.phase (standing s.session p) (standing e.session t.2) now t.0 t.1 acts t.3.1 t.4) ∙ kept) in
    let same : acts ≡ t.1 = t.4 ∙ ap (λ (xs : List ℕ). reopening xs ++ t.1) none in
    let idle = idle_tick (standing s.session p) (standing e.session t.2) now t.1 (subst (λ (xs : List ℕ). Ticks (standing s.session p) now xs t.1 (standing e.session t.2)) none t.3) (sym (ap (list_any is_close) same) ∙ goes_on) in
    let manner : e.manner ≡ resent idle.0.0 s.manner = t.5 ∙ (ap (λ (x : StandingState). manners.Staying x.pace) idle.0.1 ∙ sym (ap (resent idle.0.0) is)) in
    ((ap (λ (x : StandingState). x.session) idle.0.1, steps.1, (idle.0.0, manner)), same ∙ idle.1)

pub tick_idle : (s e : KeptSession) (now : ℕ) (acts : List Action) → Steps s now events.Tick acts e → list_any is_reopen acts ≡ false → list_any is_close acts ≡ false → IsSameButSent s e × (acts ≡ beats s.manner s.session.phase now)
tick_idle s e now acts steps kept goes_on = idle_as s.manner s e now acts refl steps kept goes_on

resent_again : (a b : ℕ) (m : Manner) → resent a (resent b m) ≡ resent a m
resent_again a b manners.Plain = refl
resent_again a b (manners.Staying p) = refl

resent_none : (m : Manner) → (sent : ℕ) × (m ≡ resent sent m)
resent_none manners.Plain = (0, refl)
resent_none (manners.Staying p) = (p.sent, refl)

same_at_first : (s : KeptSession) → IsSameButSent s s
same_at_first s = (refl, refl, resent_none s.manner)

-- the same step of a session that is the same but for when it last sent bytes
abbrev HasAgain : KeptSession → KeptSession → ℕ → Event → List Action → KeptSession → Type 0
HasAgain s x now event acts e = (end : KeptSession) × Steps x now event acts end × IsSameButSent e end

again_with : (s x e : KeptSession) (now : ℕ) (event : Event) (acts : List Action) (m : Manner) → StepsAs x.manner x now event acts (record e { manner = m; counts = asked_as x.manner acts x.counts }) → x.session ≡ s.session → x.heard ≡ s.heard → CountsEvent event s.session.phase s.heard e.heard
    → ((sent : ℕ) × (m ≡ resent sent e.manner)) → HasAgain s x now event acts e
again_with s x e now event acts m step session heard counts manner =
    let counted : CountsEvent event x.session.phase x.heard e.heard = subst (λ (y : SessionState). CountsEvent event y.phase x.heard e.heard) (sym session) (subst (λ (h : Heard). CountsEvent event s.session.phase h e.heard) (sym heard) counts) in
    (record e { manner = m; counts = asked_as x.manner acts x.counts }, (step, counted, refl), (refl, refl, manner))

again_as : (m : Manner) (s x e : KeptSession) (now : ℕ) (event : Event) (acts : List Action) → s.manner ≡ m → is_tick event ≡ false → IsSameButSent s x → Steps s now event acts e → HasAgain s x now event acts e
again_as manners.Plain s x e now event acts is other (session, heard, (sent, manner)) steps =
    let step = plain_step s e now event acts is steps in
    let plain : x.manner ≡ manners.Plain = manner ∙ ap (resent sent) is in
    let goes : Goes x.session event acts e.session = subst (λ (y : SessionState). Goes y event acts e.session) (sym session) step.0 in
    again_with s x e now event acts manners.Plain
    (subst (λ (k : Manner). StepsAs k x now event acts (record e { manner = manners.Plain; counts = asked_as x.manner acts x.counts })) (sym plain) (goes, refl))
    session heard steps.1 (0, sym (ap (resent 0) step.1))
again_as (manners.Staying p) s x e now event acts is other (session, heard, (sent, manner)) steps =
    let step = staying_step s e p now event acts is steps in
    let stays : x.manner ≡ manners.Staying (record p { sent = sent }) = manner ∙ ap (resent sent) is in
    let again = stands_again event (standing s.session p) (standing e.session step.0) now sent acts other step.1 in
    let q : Pace = record step.0 { sent = again.0 } in
    let stands : Stands (standing x.session (record p { sent = sent })) now event acts (standing e.session q) = subst (λ (y : SessionState). Stands (standing y (record p { sent = sent })) now event acts (standing e.session q)) (sym session) again.1 in
    again_with s x e now event acts (manners.Staying q)
    (subst (λ (k : Manner). StepsAs k x now event acts (record e { manner = manners.Staying q; counts = asked_as x.manner acts x.counts })) (sym stays) (q, stands, refl))
    session heard steps.1 (again.0, sym (ap (resent again.0) step.2))

-- a tick that only keeps the connection is left out
still_same : (s mid x : KeptSession) → IsSameButSent s mid → IsSameButSent s x → IsSameButSent mid x
still_same s mid x (session, heard, (sent, manner)) (session', heard', (sent', manner')) =
    (session' ∙ sym session, heard' ∙ sym heard, (sent', manner' ∙ (sym (resent_again sent' sent s.manner) ∙ sym (ap (resent sent') manner))))

or_none : (a b : Bool) → (a || b) ≡ false → (a ≡ false) × (b ≡ false)
or_none true b none = absurd (false≢true (sym none))
or_none false b none = (refl, none)

idle_step : (s mid : KeptSession) (one : Happening) → one.event ≡ events.Tick → IsIdle one → Takes s one mid → IsSameButSent s mid
idle_step s mid one is idle takes =
    let both = or_none (list_any is_reopen one.acts) (list_any is_close one.acts) (subst (λ (event : Event). (is_tick event && (list_any is_reopen one.acts || list_any is_close one.acts)) ≡ false) is idle) in
    (tick_idle s mid one.now one.acts (subst (λ (event : Event). Steps s one.now event one.acts mid) is takes) both.0 both.1).0

abbrev HasRun : KeptSession → List Happening → KeptSession → Type 0
HasRun x steps e = (end : KeptSession) × Lasts x steps end × IsSameButSent e end

left_out : (steps : List Happening) (s e x : KeptSession) → AllByRecursion IsIdle steps → Lasts s steps e → IsSameButSent s x → HasRun x (without_ticks steps) e
left_out [] s e x idle here same = (x, refl, subst (λ (y : KeptSession). IsSameButSent y x) (sym here) same)
left_out (one ∷ steps) s e x idle (mid, takes, lasts) same = elim (tick_or_not one.event) [
  | inl is ↦
      let rest = left_out steps mid e x idle.1 lasts (still_same s mid x (idle_step s mid one is idle.0 takes) same) in
      let skips : is_tick one.event ≡ true = ap is_tick is in
      subst (λ (b : Bool). HasRun x (cond b (without_ticks steps) (one ∷ without_ticks steps)) e) (sym skips) rest
  | inr other ↦
      let first = again_as s.manner s x mid one.now one.event one.acts refl other same takes in
      let rest = left_out steps mid e first.0 idle.1 lasts first.2 in
      let run : HasRun x (one ∷ without_ticks steps) e = (rest.0, (first.0, first.1, rest.1), rest.2) in
      subst (λ (b : Bool). HasRun x (cond b (without_ticks steps) (one ∷ without_ticks steps)) e) (sym other) run
]

pub run_idle : (s e : KeptSession) (steps : List Happening) → AllByRecursion IsIdle steps → Lasts s steps e → (end : KeptSession) × Lasts s (without_ticks steps) end × IsSameButSent e end
run_idle s e steps idle lasts = left_out steps s e s idle lasts (same_at_first s)

-- ---- acknowledgements

received_in_run : (roster : List Definition) (begun s e : KeptSession) (steps : List Happening) (one : Happening) (table number : ℕ) → Ran roster begun steps s → Takes s one e → acknowledges table number one.acts ≡ true → was_acknowledged table number (steps ++ (one ∷ [])) ≡ true
received_in_run roster begun s e steps one table number (inl (begins, runs, is)) takes passes =
    plain_acks_received s.session e.session steps one table number (plain_step s e one.now one.event one.acts is takes).0 passes
received_in_run roster begun s e steps one table number (inr (p, q, begins, lasts, is)) takes passes =
    let step = staying_step s e q one.now one.event one.acts is takes in
    acks_were_received roster (standing begun.session p) (standing s.session q) (standing e.session step.0) steps one table number begins lasts step.1 passes

pub acks_received : (roster : List Definition) (begun s e : KeptSession) (steps : List Happening) (one : Happening) (table number : ℕ) → Begins roster begun → Lasts begun steps s → Takes s one e → acknowledges table number one.acts ≡ true → was_acknowledged table number (steps ++ (one ∷ [])) ≡ true
acks_received roster begun s e steps one table number begins lasts takes passes =
    received_in_run roster begun s e steps one table number (ran roster begun s steps begins lasts) takes passes

-- ---- resyncs

stays_not : {X : Type 0} (m : Manner) → m ≡ manners.Plain → is_staying m ≡ true → X
stays_not m plain stays = absurd (false≢true (sym (ap is_staying plain) ∙ stays))

work_in_run : (roster : List Definition) (begun s : KeptSession) (steps : List Happening) → Ran roster begun steps s → is_staying s.manner ≡ true → HasWork s.session.phase
work_in_run roster begun s steps (inl (begins, runs, is)) stays = stays_not s.manner is stays
work_in_run roster begun s steps (inr (p, q, begins, lasts, is)) stays = has_work roster (standing begun.session p) (standing s.session q) steps begins lasts

pub work_left : (roster : List Definition) (begun s : KeptSession) (steps : List Happening) → Begins roster begun → Lasts begun steps s → is_staying s.manner ≡ true → HasWork s.session.phase
work_left roster begun s steps begins lasts stays = work_in_run roster begun s steps (ran roster begun s steps begins lasts) stays

-- a turn of a plain session reopens nothing
turns_reopen : (o : Option ℕ) (s : SessionState) (c : Course) (acts : List Action) (e : SessionState) → Turns o s c acts e → list_any is_reopen acts ≡ false
turns_reopen None s c acts e (is, ends) = ap (list_any is_reopen) is
turns_reopen (Some table) s c acts e (is, ends) = ap (list_any is_reopen) is

turn_reopens : (phase : Phase) (s e : SessionState) (acts : List Action) → GoesIn phase s events.Turn acts e → list_any is_reopen acts ≡ false
turn_reopens (phases.New hello c) s e acts (is, ends) = ap (list_any is_reopen) is
turn_reopens (phases.Hello greeter bytes c) s e acts (is, ends) = ap (list_any is_reopen) is
turn_reopens (phases.Open c) s e acts (due, turns) = turns_reopen (table_to_ask c) s c acts e turns
turn_reopens phases.Ended s e acts goes = absurd goes

apart_in_run : (roster : List Definition) (begun s t u e : KeptSession) (before between : List Happening) (m n : ℕ) (acts given : List Action) → Ran roster begun before s → Steps s m events.Turn acts t → list_any is_reopen acts ≡ true
    → Lasts t between u → AllByRecursion (IsSince m) between → Steps u n events.Turn given e → list_any is_reopen given ≡ true → m + resync_time ≤ n
apart_in_run roster begun s t u e before between m n acts given (inl (begins, runs, is)) turns reopens goes_on since turns_then reopens_then =
    absurd (false≢true (sym (turn_reopens s.session.phase s.session t.session acts (plain_step s t m events.Turn acts is turns).0) ∙ reopens))
apart_in_run roster begun s t u e before between m n acts given (inr (p, q, begins, lasts, is)) turns reopens goes_on since turns_then reopens_then =
    let one = staying_step s t q m events.Turn acts is turns in
    let on = staying_lasts between t u one.0 one.2 goes_on in
    let other = staying_step u e on.0 n events.Turn given on.2 turns_then in
    reopens_apart roster (standing begun.session p) (standing s.session q) (standing t.session one.0) (standing u.session on.0) (standing e.session other.0) before between m n acts given begins lasts one.1 reopens on.1 since other.1 reopens_then

pub resyncs_apart : (roster : List Definition) (begun s t u e : KeptSession) (before between : List Happening) (m n : ℕ) (acts given : List Action) → Begins roster begun → Lasts begun before s → Steps s m events.Turn acts t → list_any is_reopen acts ≡ true
    → Lasts t between u → AllByRecursion (IsSince m) between → Steps u n events.Turn given e → list_any is_reopen given ≡ true → m + resync_time ≤ n
resyncs_apart roster begun s t u e before between m n acts given begins lasts turns reopens goes_on since turns_then reopens_then =
    apart_in_run roster begun s t u e before between m n acts given (ran roster begun s before begins lasts) turns reopens goes_on since turns_then reopens_then

opens_in_run : (roster : List Definition) (begun s e : KeptSession) (steps : List Happening) (one : Happening) → Ran roster begun steps s → is_staying s.manner ≡ true → Takes s one e → list_any is_reopen one.acts ≡ true
    → (one.event ≡ events.Turn) ⊎ ((one.event ≡ events.Tick) ⊎ ((is_open s.session.phase ≡ false) × (e.session.version ≡ Some versions.V20)))
opens_in_run roster begun s e steps one (inl (begins, runs, is)) stays takes reopens = stays_not s.manner is stays
opens_in_run roster begun s e steps one (inr (p, q, begins, lasts, is)) stays takes reopens =
    let step = staying_step s e q one.now one.event one.acts is takes in
    reopens_as_it_opens roster (standing begun.session p) (standing s.session q) (standing e.session step.0) steps one begins lasts step.1 reopens

pub reopens_so : (roster : List Definition) (begun s e : KeptSession) (steps : List Happening) (one : Happening) → Begins roster begun → Lasts begun steps s → is_staying s.manner ≡ true → Takes s one e → list_any is_reopen one.acts ≡ true
    → (one.event ≡ events.Turn) ⊎ ((one.event ≡ events.Tick) ⊎ ((is_open s.session.phase ≡ false) × (e.session.version ≡ Some versions.V20)))
reopens_so roster begun s e steps one begins lasts stays takes reopens = opens_in_run roster begun s e steps one (ran roster begun s steps begins lasts) stays takes reopens

pub rested : (s e : KeptSession) (p q : Pace) (now : ℕ) (event : Event) (acts : List Action) → s.manner ≡ manners.Staying p → e.manner ≡ manners.Staying q → Steps s now event acts e → q.reopened ≢ p.reopened → is_rested p.reopened now ≡ true
rested s e p q now event acts is then steps begins =
    let step = staying_step s e p now event acts is steps in
    let same : step.0 ≡ q = same_pace step.0 q e.manner step.2 then in
    begins_if_rested (standing s.session p) (standing e.session step.0) now event acts step.1 (subst (λ (r : Pace). r.reopened ≢ p.reopened) (sym same) begins)

-- ---- names

alone_as : (m : Manner) (s e : KeptSession) (c : Course) (now : ℕ) (acts : List Action) (table : ℕ) → s.manner ≡ m → s.session.phase ≡ phases.Open c → Steps s now events.Turn acts e → copies table acts ≡ true
    → (stores_names table (progress_in m) && list_any (may_lose_names (progress_in m)) c.shares) ≡ false
alone_as manners.Plain s e c now acts table is stands steps copied = refl
alone_as (manners.Staying p) s e c now acts table is stands steps copied =
    let step = staying_step s e p now events.Turn acts is steps in
    names_go_alone (standing s.session p) (standing e.session step.0) c now acts table stands step.1 copied

pub names_alone : (s e : KeptSession) (c : Course) (now : ℕ) (acts : List Action) (table : ℕ) → s.session.phase ≡ phases.Open c → Steps s now events.Turn acts e → copies table acts ≡ true
    → (stores_names table (progress_in s.manner) && list_any (may_lose_names (progress_in s.manner)) c.shares) ≡ false
names_alone s e c now acts table stands steps copied = alone_as s.manner s e c now acts table refl stands steps copied

forgets_left : (left : List ℕ) (s e : StandingState) (now : ℕ) (rest : List Action) → any_left left ≡ true → Ticks s now left rest e → e.session.known ≡ without_names s.session.known
forgets_left [] s e now rest some ticks = absurd (false≢true some)
forgets_left (table ∷ tables) s e now rest some ticks = names_are_forgotten s e now table tables rest ticks

forgotten_as : (m : Manner) (s e : KeptSession) (now : ℕ) (acts : List Action) → s.manner ≡ m → Steps s now events.Tick acts e → list_any is_reopen acts ≡ true → e.session.known ≡ without_names s.session.known
forgotten_as manners.Plain s e now acts is steps reopens = absurd (false≢true (sym (ap (list_any is_reopen) (tick_plain s e now acts is steps).0) ∙ reopens))
forgotten_as (manners.Staying p) s e now acts is steps reopens =
    let t = tick_from s e p now acts is steps in
    forgets_left t.0 (standing s.session p) (standing e.session t.2) now t.1 (sym (any_reopened _ s.session.phase (standing s.session p) (standing e.session t.2) now t.0 t.1 acts t.3.1 t.4) ∙ reopens) t.3

pub names_forgotten : (s e : KeptSession) (now : ℕ) (acts : List Action) → Steps s now events.Tick acts e → list_any is_reopen acts ≡ true → e.session.known ≡ without_names s.session.known
names_forgotten s e now acts steps reopens = forgotten_as s.manner s e now acts refl steps reopens

-- ---- heartbeats

pub sent_last : (s e : KeptSession) (p q : Pace) (one : Happening) → s.manner ≡ manners.Staying p → e.manner ≡ manners.Staying q → Takes s one e → q.sent ≡ sent_by one p.sent
sent_last s e p q one is then takes =
    let step = staying_step s e p one.now one.event one.acts is takes in
    sym (ap (λ (r : Pace). r.sent) (same_pace step.0 q e.manner step.2 then)) ∙ last_sent (standing s.session p) (standing e.session step.0) one step.1

fresh_as : (m : Manner) (s e : KeptSession) (q : Pace) (now : ℕ) (acts : List Action) → s.manner ≡ m → e.manner ≡ manners.Staying q → Steps s now events.Tick acts e → is_open e.session.phase ≡ true → has_passed heartbeat_time q.sent now ≡ false
fresh_as manners.Plain s e q now acts is then steps opened = never_both q e.manner (plain_step s e now events.Tick acts is steps).1 then
fresh_as (manners.Staying p) s e q now acts is then steps opened =
    let t = tick_from s e p now acts is steps in
    subst (λ (r : Pace). has_passed heartbeat_time r.sent now ≡ false) (same_pace t.2 q e.manner t.5 then) (none_owed (standing s.session p) (standing e.session t.2) now t.0 t.1 t.3 opened)

pub fresh : (s e : KeptSession) (q : Pace) (now : ℕ) (acts : List Action) → e.manner ≡ manners.Staying q → Steps s now events.Tick acts e → is_open e.session.phase ≡ true → has_passed heartbeat_time q.sent now ≡ false
fresh s e q now acts then steps opened = fresh_as s.manner s e q now acts refl then steps opened

beats_as : (k : Manner) (s t u e : KeptSession) (one : Happening) (steps : List Happening) (m n : ℕ) (acts : List Action) → s.manner ≡ k → Takes s one t → SendsAt m one → Lasts t steps u → AllByRecursion (IsSince m) steps → Steps u n events.Tick acts e → list_any is_heartbeat acts ≡ true → m + heartbeat_time ≤ n
beats_as manners.Plain s t u e one steps m n acts is takes sent lasts since ticks beating =
    let run = plain_lasts steps t u (plain_step s t one.now one.event one.acts is takes).1 lasts in
    absurd (false≢true (sym (ap (list_any is_heartbeat) (tick_plain u e n acts run.1 ticks).0) ∙ beating))
beats_as (manners.Staying p) s t u e one steps m n acts is takes sent lasts since ticks beating =
    let first = staying_step s t p one.now one.event one.acts is takes in
    let run = staying_lasts steps t u first.0 first.2 lasts in
    let last = tick_from u e run.0 n acts run.2 ticks in
    beats_apart (standing s.session p) (standing t.session first.0) (standing u.session run.0) (standing e.session last.2) one steps m n last.0 last.1 first.1 sent run.1 since last.3
    (sym (ap (list_any is_heartbeat) last.4 ∙ after_reopening is_heartbeat (λ table. refl) last.0 last.1) ∙ beating)

pub heartbeats_apart : (s t u e : KeptSession) (one : Happening) (steps : List Happening) (m n : ℕ) (acts : List Action) → Takes s one t → SendsAt m one → Lasts t steps u → AllByRecursion (IsSince m) steps → Steps u n events.Tick acts e → list_any is_heartbeat acts ≡ true → m + heartbeat_time ≤ n
heartbeats_apart s t u e one steps m n acts takes sent lasts since ticks beating = beats_as s.manner s t u e one steps m n acts refl takes sent lasts since ticks beating

silence_as : (k : Manner) (s t u : KeptSession) (q : Pace) (steps : List Happening) (m n d : ℕ) (acts : List Action) → s.manner ≡ k → u.manner ≡ manners.Staying q → Steps s m events.Tick acts t → is_open t.session.phase ≡ true → Lasts t steps u → AllByRecursion (IsSince m) steps → n ≤ m + d → n < q.sent + (heartbeat_time + d)
silence_as manners.Plain s t u q steps m n d acts is then ticks opened lasts since soon =
    never_both q u.manner (plain_lasts steps t u (plain_step s t m events.Tick acts is ticks).1 lasts).1 then
silence_as (manners.Staying p) s t u q steps m n d acts is then ticks opened lasts since soon =
    let first = tick_from s t p m acts is ticks in
    let run = staying_lasts steps t u first.2 first.5 lasts in
    subst (λ (r : Pace). n < r.sent + (heartbeat_time + d)) (same_pace run.0 q u.manner run.2 then)
    (not_silent (standing s.session p) (standing t.session first.2) (standing u.session run.0) steps m n d first.0 first.1 first.3 opened run.1 since soon)

pub silence : (s t u : KeptSession) (q : Pace) (steps : List Happening) (m n d : ℕ) (acts : List Action) → u.manner ≡ manners.Staying q → Steps s m events.Tick acts t → is_open t.session.phase ≡ true → Lasts t steps u → AllByRecursion (IsSince m) steps → n ≤ m + d → n < q.sent + (heartbeat_time + d)
silence s t u q steps m n d acts then ticks opened lasts since soon = silence_as s.manner s t u q steps m n d acts refl then ticks opened lasts since soon

-- ---- tables

left_as : (m : Manner) (s t e : KeptSession) (steps : List Happening) (one : Happening) (table : ℕ) → s.manner ≡ m → Lasts s steps t → was_left table steps ≡ true → Takes t one e → list_any (is_about table) one.acts ≡ false
left_as manners.Plain s t e steps one table is lasts was takes = absurd (false≢true (sym (never_in_run (reopened table) refl steps s t is lasts) ∙ was))
left_as (manners.Staying p) s t e steps one table is lasts was takes =
    let run = staying_lasts steps s t p is lasts in
    let step = staying_step t e run.0 one.now one.event one.acts run.2 takes in
    left_for_good (standing s.session p) (standing t.session run.0) (standing e.session step.0) steps one table run.1 was step.1

pub left_stays : (s t e : KeptSession) (steps : List Happening) (one : Happening) (table : ℕ) → Lasts s steps t → was_left table steps ≡ true → Takes t one e → list_any (is_about table) one.acts ≡ false
left_stays s t e steps one table lasts was takes = left_as s.manner s t e steps one table refl lasts was takes

copy_as : (m : Manner) (s e : KeptSession) (now : ℕ) (event : Event) (acts : List Action) (table : ℕ) → StepsAs m s now event acts e → copies table acts ≡ true → event ≡ events.Turn
copy_as manners.Plain s e now event acts table (goes, is) copied = goes_copy s.session e.session event acts table goes copied
copy_as (manners.Staying p) s e now event acts table (q, stands, is) copied = only_turns_copy (standing s.session p) (standing e.session q) now event acts table stands copied

pub turns_copy : (s e : KeptSession) (now : ℕ) (event : Event) (acts : List Action) (table : ℕ) → Steps s now event acts e → copies table acts ≡ true → event ≡ events.Turn
turns_copy s e now event acts table steps copied = copy_as s.manner s e now event acts table steps.0 copied

free_in_run : (roster : List Definition) (begun s e : KeptSession) (steps : List Happening) (c : Course) (one : Happening) (table : ℕ) → Ran roster begun steps s → s.session.phase ≡ phases.Open c → Takes s one e → copies table one.acts ≡ true → IsFreeIn table c.teaching c.shares
free_in_run roster begun s e steps c one table (inl (begins, runs, is)) stands takes copied =
    plain_free_at roster begun.session s.session e.session (handed steps) c one.event one.acts table begins runs stands (plain_step s e one.now one.event one.acts is takes).0 copied
free_in_run roster begun s e steps c one table (inr (p, q, begins, lasts, is)) stands takes copied =
    let step = staying_step s e q one.now one.event one.acts is takes in
    free_at roster (standing begun.session p) (standing s.session q) (standing e.session step.0) steps c one table begins lasts stands step.1 copied

pub free_out : (roster : List Definition) (begun s e : KeptSession) (steps : List Happening) (c : Course) (one : Happening) (table : ℕ) → Begins roster begun → Lasts begun steps s → s.session.phase ≡ phases.Open c → Takes s one e → copies table one.acts ≡ true → is_out table c.shares ≡ false
free_out roster begun s e steps c one table begins lasts stands takes copied = (free_in_run roster begun s e steps c one table (ran roster begun s steps begins lasts) stands takes copied).0

pub free_quiet : (roster : List Definition) (begun s e : KeptSession) (steps : List Happening) (c : Course) (one : Happening) (table : ℕ) → Begins roster begun → Lasts begun steps s → s.session.phase ≡ phases.Open c → Takes s one e → copies table one.acts ≡ true → c.teaching ≡ true → is_quiet table c.shares ≡ false
free_quiet roster begun s e steps c one table begins lasts stands takes copied = (free_in_run roster begun s e steps c one table (ran roster begun s steps begins lasts) stands takes copied).1

out_as : (m : Manner) (s e : KeptSession) (one : Happening) (table : ℕ) → StepsAs m s one.now one.event one.acts e → is_out table (shared s.session.phase) ≡ true → settles_all table one ≡ false → leaves table one ≡ false → is_open e.session.phase ≡ true → is_out table (shared e.session.phase) ≡ true
out_as manners.Plain s e one table (goes, is) out unsettled stays opened = stays_out_plain s.session e.session one table goes out unsettled opened
out_as (manners.Staying p) s e one table (q, stands, is) out unsettled stays opened = stays_out (standing s.session p) (standing e.session q) one table stands out unsettled stays opened

pub out_stays : (s e : KeptSession) (one : Happening) (table : ℕ) → Takes s one e → is_out table (shared s.session.phase) ≡ true → settles_all table one ≡ false → leaves table one ≡ false → is_open e.session.phase ≡ true → is_out table (shared e.session.phase) ≡ true
out_stays s e one table takes out unsettled stays opened = out_as s.manner s e one table takes.0 out unsettled stays opened
