-- Laws of a session of either manner, from those of the machine and those of a session that stays.
use Rattle.std.proofs.Common.{◌≡◌, ◌≢◌, ◌⊎◌, ℕ, Bool, true, false, ◌||◌, ◌&&◌, List, [], ◌∷◌, ◌++◌, None, Ok, Err, Result, refl, sym, ap, ◌∙◌, subst, inl, inr}
use Rattle.std.specs.List.{list_any, AllByRecursion}
use Rattle.std.proofs.lemmas.List.Folds.{list_any-append}
use Rattle.table_types.specs.Tables.{Definition}
use Rattle.table_types.specs.declared.copies.CopyKind.TheVariants as kinds
use Rattle.table_types.specs.declared.copies.Settled.TheVariants as settles
use Rattle.peers_msg.specs.Integers.{IsBytes}
use Rattle.peers_msg.specs.Decoding.{together}
use Rattle.peers_hello.specs.declared.hello.Hello.{Hello}
use Rattle.peers_hello.specs.Hellos.{answer_of}
use Rattle.peers_hello.specs.Meetings.{Meeting, Opens, Refuses, Waits, by_answer, by_status}
use Rattle.peers_hello.specs.Statuses.{status_of}
use Rattle.tolerant_intake.specs.Reading.{passed_by}
use Rattle.session_core.specs.declared.action.Action.{Action}
use Rattle.session_core.specs.declared.counts.Counts.{Counts}
use Rattle.session_core.specs.declared.event.Event.{Event}
use Rattle.session_core.specs.declared.event.Event.TheVariants as events
use Rattle.session_core.specs.declared.halt.Halt.{Halt}
use Rattle.session_core.specs.declared.halt.Halt.TheVariants as halts
use Rattle.session_core.specs.declared.heard.Heard.{Heard}
use Rattle.session_core.specs.declared.phase.Greeter.{Greeter}
use Rattle.session_core.specs.declared.phase.Greeter.TheVariants as greeters
use Rattle.session_core.specs.Phases.{Phase}
use Rattle.session_core.specs.Phases as phases
use Rattle.session_core.specs.Courses.{Course, ReceivesAll, course_fed, kind_of, staying}
use Rattle.session_core.specs.AskedCounts.{asked_as}
use Rattle.session_core.specs.HeardCounts.{CountsAfter, CountsBytes, CountsEvent, CountsIn, all_counted}
use Rattle.session_core.specs.Manners.{Manner}
use Rattle.session_core.specs.Manners as manners
use Rattle.session_core.specs.Paces.{Pace, pace_at}
use Rattle.session_core.specs.Standing.{StandingState, changed, is_reopen}
use Rattle.session_core.specs.Keeping.{KeptSession, Steps, StepsAs, is_staying, kept_from, plain, standing}
use Rattle.session_core.specs.Sessions.{Concludes, Goes, GoesIn, ReceivesBytes, SessionState, accepting, connecting, in_phase, is_asked, opening, speaking}
use Rattle.session_core.specs.Runs.{BringsBytes, HasNothingLeft, HasNothingOut, HoldsBytes, ends_resync, falls_back_in, version_in, was_confirmed}
use Rattle.session_core.specs.Happenings.{Begins, BeginsAs, Happening, HearsBytes, Lasts, Takes, handed, is_finish, is_tick, leaves_any, was_left}
use Rattle.session_core.specs.Cutting.{AreFed, IsFedOut, without_acks}
use Rattle.session_core.specs.Hearing.{Awaits, AwaitsIn, Hears, asked_in, bytes_of, heard_in}
use Rattle.session_core.proofs.MachineRuns.{AreFed as IsFed, Hears as HearsAll}
use Rattle.session_core.proofs.KeepingLaws.{Ran, RanPlain, never_both, plain_lasts, plain_step, ran, staying_lasts, staying_step, step_asked}
use Rattle.session_core.proofs.BytesStay.{begun_holds, step_holds}
use Rattle.session_core.proofs.ConfirmedLaws.{sent_where_confirmed}
use Rattle.session_core.proofs.CountedOnce.{counted_once}
use Rattle.session_core.proofs.FaultLaws.{faultless_until_over}
use Rattle.session_core.proofs.GreetingInOrder.{Met, greeting_however_cut, greets_meets}
use Rattle.session_core.proofs.HeardHoweverCut.{AreAlike, heard_however_cut}
use Rattle.session_core.proofs.HelloDecides.{decided_by_answer, decided_by_status}
use Rattle.session_core.proofs.RunLaws.{HasTaughtAll, ends_taught, none_due_in_hello}
use Rattle.session_core.proofs.RunLemmas.{IsKeptIn}
use Rattle.session_core.proofs.SameHoweverFed.{same_however_fed}
use Rattle.session_core.proofs.ShareLemmas.{ids_of}
use Rattle.session_core.proofs.SomeStand.{holds_stands, some_event, some_ticks}
use Rattle.session_core.proofs.SomeStep.{some_step, ticks_anyway}
use Rattle.session_core.proofs.StandingEnds.{begun_kept, ends_taught_or_left, handed_and_one, lasts_kept, rest_after}
use Rattle.session_core.proofs.StandingFinish.{finished_leaves_none}
use Rattle.session_core.proofs.StandingGreetings.{decided_by_answer_while_staying, decided_by_status_while_staying, faultless_while_staying, sent_while_staying}
use Rattle.session_core.proofs.StandingInOrder.{hears_one, received_as, step_of, steps_of}
use Rattle.session_core.proofs.StandingOnce.{stands_once}
use Rattle.session_core.proofs.StepIsUnique.{goes_once}
use Rattle.session_core.proofs.TickGives.{tick_or_not}

-- ---- a plain session leaves no table

pub plain_tick : (phase : Phase) (s e : SessionState) (acts : List Action) → s.phase ≡ phase → GoesIn phase s events.Tick acts e → (acts ≡ []) × (e ≡ s)
plain_tick (phases.New hello c) s e acts stands (is, ends) = (is, ends ∙ ap (in_phase s) (sym stands))
plain_tick (phases.Hello greeter bytes c) s e acts stands (is, ends) = (is, ends ∙ ap (in_phase s) (sym stands))
plain_tick (phases.Open c) s e acts stands (due, (is, ends)) = (is, ends ∙ ap (in_phase s) (sym stands))
plain_tick phases.Ended s e acts stands goes = absurd goes

-- so what is asked of the actions of a tick isn't so
pub never_at_tick : (P : List Action → Bool) → P [] ≡ false → (s e : SessionState) (event : Event) (acts : List Action) → Goes s event acts e → (is_tick event && P acts) ≡ false
never_at_tick P none s e event acts goes = elim (tick_or_not event) [
  | inl is ↦
      let ticks : Goes s events.Tick acts e = subst (λ (x : Event). Goes s x acts e) is goes in
      subst (λ (x : Event). (is_tick x && P acts) ≡ false) (sym is) (ap P (plain_tick s.phase s e acts refl ticks).0 ∙ none)
  | inr other ↦ rw other refl
]

neither : (a b : Bool) → a ≡ false → b ≡ false → (a || b) ≡ false
neither true b one other = one
neither false b one other = other

pub never_in_run : (P : List Action → Bool) → P [] ≡ false → (steps : List Happening) (s e : KeptSession) → s.manner ≡ manners.Plain → Lasts s steps e → list_any (λ one. is_tick one.event && P one.acts) steps ≡ false
never_in_run P none [] s e is here = refl
never_in_run P none (one ∷ steps) s e is (mid, takes, lasts) =
    let first = plain_step s mid one.now one.event one.acts is takes in
    neither _ _ (never_at_tick P none s.session mid.session one.event one.acts first.0) (never_in_run P none steps mid e first.1 lasts)

-- ---- resyncs

all_taught : (P : Definition → Type 0) (Q : Definition → Type 0) (ds : List Definition) → AllByRecursion Q ds → AllByRecursion (λ d. P d ⊎ Q d) ds
all_taught P Q [] all = tt
all_taught P Q (d ∷ ds) all = (inr all.0, all_taught P Q ds all.1)

plain_taught : (roster : List Definition) (begun s e : KeptSession) (steps : List Happening) (one : Happening) → RanPlain roster begun steps s → Takes s one e → ends_resync one.acts ≡ true → HasTaughtAll roster (handed steps) s.session one.event one.acts e.session
plain_taught roster begun s e steps one (begins, runs, is) takes ends =
    ends_taught roster begun.session s.session e.session (handed steps) one.event one.acts begins runs (plain_step s e one.now one.event one.acts is takes).0 ends

plain_left : (roster : List Definition) (begun s e : KeptSession) (steps : List Happening) (one : Happening) → RanPlain roster begun steps s → Takes s one e → ends_resync one.acts ≡ true → AllByRecursion (λ d. HasNothingLeft kinds.Resync (handed (steps ++ (one ∷ []))) d.id) roster
plain_left roster begun s e steps one run takes ends =
    subst (λ (hs : List (Event × List Action)). AllByRecursion (λ d. HasNothingLeft kinds.Resync hs d.id) roster) (sym (handed_and_one steps one))
    (plain_taught roster begun s e steps one run takes ends).2

out_in : (roster : List Definition) (begun s e : KeptSession) (steps : List Happening) (one : Happening) → Ran roster begun steps s → Takes s one e → ends_resync one.acts ≡ true → HasNothingOut e.session
out_in roster begun s e steps one (inl run) takes ends = (plain_taught roster begun s e steps one run takes ends).1
out_in roster begun s e steps one (inr (p, q, begins, lasts, is)) takes ends =
    let step = staying_step s e q one.now one.event one.acts is takes in
    (ends_taught_or_left roster (standing begun.session p) (standing s.session q) (standing e.session step.0) steps one begins lasts step.1 ends).0

pub ends_out : (roster : List Definition) (begun s e : KeptSession) (steps : List Happening) (one : Happening) → Begins roster begun → Lasts begun steps s → Takes s one e → ends_resync one.acts ≡ true → HasNothingOut e.session
ends_out roster begun s e steps one begins lasts takes ends = out_in roster begun s e steps one (ran roster begun s steps begins lasts) takes ends

abbrev IsTaughtOrLeft : Bool → List Happening → Definition → Type 0
IsTaughtOrLeft stays steps d = (was_left d.id steps ≡ true) ⊎ HasNothingLeft (kind_of stays true) (handed steps) d.id

left_in_run : (roster : List Definition) (begun s e : KeptSession) (steps : List Happening) (one : Happening) → Ran roster begun steps s → Takes s one e → ends_resync one.acts ≡ true → AllByRecursion (IsTaughtOrLeft (is_staying s.manner) (steps ++ (one ∷ []))) roster
left_in_run roster begun s e steps one (inl (begins, runs, is)) takes ends =
    subst (λ (m : Manner). AllByRecursion (IsTaughtOrLeft (is_staying m) (steps ++ (one ∷ []))) roster) (sym is)
    (all_taught (λ d. was_left d.id (steps ++ (one ∷ [])) ≡ true) (λ d. HasNothingLeft kinds.Resync (handed (steps ++ (one ∷ []))) d.id) roster
    (plain_left roster begun s e steps one (begins, runs, is) takes ends))
left_in_run roster begun s e steps one (inr (p, q, begins, lasts, is)) takes ends =
    let step = staying_step s e q one.now one.event one.acts is takes in
    subst (λ (m : Manner). AllByRecursion (IsTaughtOrLeft (is_staying m) (steps ++ (one ∷ []))) roster) (sym is)
    (ends_taught_or_left roster (standing begun.session p) (standing s.session q) (standing e.session step.0) steps one begins lasts step.1 ends).1

pub ends_left : (roster : List Definition) (begun s e : KeptSession) (steps : List Happening) (one : Happening) → Begins roster begun → Lasts begun steps s → Takes s one e → ends_resync one.acts ≡ true → AllByRecursion (IsTaughtOrLeft (is_staying s.manner) (steps ++ (one ∷ []))) roster
ends_left roster begun s e steps one begins lasts takes ends = left_in_run roster begun s e steps one (ran roster begun s steps begins lasts) takes ends

append_one : (P : Happening → Bool) (steps : List Happening) (one : Happening) → list_any P steps ≡ false → P one ≡ false → list_any P (steps ++ (one ∷ [])) ≡ false
append_one P steps one before then = list_any-append P steps (one ∷ []) ∙ neither _ _ before (neither (P one) false then refl)

finished_in : (roster : List Definition) (begun s e : KeptSession) (steps : List Happening) (one : Happening) → begun.manner ≡ manners.Plain → Lasts begun steps s → Takes s one e → list_any leaves_any (steps ++ (one ∷ [])) ≡ false
finished_in roster begun s e steps one is lasts takes =
    let run = plain_lasts steps begun s is lasts in
    append_one leaves_any steps one (never_in_run (list_any is_reopen) refl steps begun s is lasts)
    (never_at_tick (list_any is_reopen) refl s.session e.session one.event one.acts (plain_step s e one.now one.event one.acts run.1 takes).0)

pub ends_finished : (roster : List Definition) (begun s e : KeptSession) (steps : List Happening) (one : Happening) → Begins roster begun → Lasts begun steps s → Takes s one e → list_any is_finish one.acts ≡ true → list_any leaves_any (steps ++ (one ∷ [])) ≡ false
ends_finished roster begun s e steps one (first, begins, inl is) lasts takes finishes = finished_in roster begun s e steps one (ap (λ (x : KeptSession). x.manner) is) lasts takes
ends_finished roster begun s e steps one (first, begins, inr (now, is)) lasts takes finishes =
    let p : Pace = pace_at now first.known.roster in
    let run = staying_lasts steps begun s p (ap (λ (x : KeptSession). x.manner) is) lasts in
    let step = staying_step s e run.0 one.now one.event one.acts run.2 takes in
    finished_leaves_none roster (standing begun.session p) (standing s.session run.0) (standing e.session step.0) steps one (first, now, begins, ap (λ (x : KeptSession). standing x.session p) is) run.1 step.1 finishes

plain_before : (roster : List Definition) (begun s e : KeptSession) (steps : List Happening) (one : Happening) → s.manner ≡ manners.Plain → Ran roster begun steps s → Takes s one e → ends_resync one.acts ≡ true → HasNothingOut s.session
plain_before roster begun s e steps one plain (inl run) takes ends = (plain_taught roster begun s e steps one run takes ends).0
plain_before roster begun s e steps one plain (inr (p, q, begins, lasts, is)) takes ends = never_both q s.manner plain is

pub ends_before : (roster : List Definition) (begun s e : KeptSession) (steps : List Happening) (one : Happening) → s.manner ≡ manners.Plain → Begins roster begun → Lasts begun steps s → Takes s one e → ends_resync one.acts ≡ true → HasNothingOut s.session
ends_before roster begun s e steps one plain begins lasts takes ends = plain_before roster begun s e steps one plain (ran roster begun s steps begins lasts) takes ends

plain_all : (roster : List Definition) (begun s e : KeptSession) (steps : List Happening) (one : Happening) → s.manner ≡ manners.Plain → Ran roster begun steps s → Takes s one e → ends_resync one.acts ≡ true → AllByRecursion (λ d. HasNothingLeft kinds.Resync (handed (steps ++ (one ∷ []))) d.id) roster
plain_all roster begun s e steps one plain (inl run) takes ends = plain_left roster begun s e steps one run takes ends
plain_all roster begun s e steps one plain (inr (p, q, begins, lasts, is)) takes ends = never_both q s.manner plain is

pub ends_plain : (roster : List Definition) (begun s e : KeptSession) (steps : List Happening) (one : Happening) → s.manner ≡ manners.Plain → Begins roster begun → Lasts begun steps s → Takes s one e → ends_resync one.acts ≡ true → AllByRecursion (λ d. HasNothingLeft kinds.Resync (handed (steps ++ (one ∷ []))) d.id) roster
ends_plain roster begun s e steps one plain begins lasts takes ends = plain_all roster begun s e steps one plain (ran roster begun s steps begins lasts) takes ends

-- ---- what may come

pub unasked : (s e : KeptSession) (now : ℕ) (event : Event) (acts : List Action) → Steps s now event acts e → is_asked s.session.phase event ≡ true
unasked s e now event acts steps = step_asked s.manner s e now event acts steps.0

-- ---- the hello

pub connects_so : (hello : Hello) (roster : List Definition) (up_to_date : Bool) (begun s : KeptSession) (steps : List Happening) → BeginsAs (connecting hello roster up_to_date) begun → Lasts begun steps s
    → (s.session.version ≡ version_in (by_status hello.version (status_of (heard_in (handed steps))) (heard_in (handed steps))))
    × (s.session.fell_back ≡ falls_back_in hello.version (by_status hello.version (status_of (heard_in (handed steps))) (heard_in (handed steps))))
connects_so hello roster up_to_date begun s steps (inl is) lasts =
    let from = subst (λ (x : KeptSession). Lasts x steps s) is lasts in
    decided_by_status hello roster up_to_date s.session (handed steps) (plain_lasts steps (plain (connecting hello roster up_to_date)) s refl from).0
connects_so hello roster up_to_date begun s steps (inr (now, is)) lasts =
    let from = subst (λ (x : KeptSession). Lasts x steps s) is lasts in
    let run = staying_lasts steps (kept_from now (plain (connecting hello roster up_to_date))) s (pace_at now (connecting hello roster up_to_date).known.roster) refl from in
    decided_by_status_while_staying hello roster up_to_date now (standing s.session run.0) steps run.1

pub accepts_so : (own : List ℕ) (peers : List (List ℕ)) (roster : List Definition) (up_to_date : Bool) (begun s : KeptSession) (steps : List Happening) → BeginsAs (accepting own peers roster up_to_date) begun → Lasts begun steps s
    → (s.session.version ≡ version_in (by_answer (answer_of own peers (heard_in (handed steps))) (heard_in (handed steps)))) × (s.session.fell_back ≡ false)
accepts_so own peers roster up_to_date begun s steps (inl is) lasts =
    let from = subst (λ (x : KeptSession). Lasts x steps s) is lasts in
    decided_by_answer own peers roster up_to_date s.session (handed steps) (plain_lasts steps (plain (accepting own peers roster up_to_date)) s refl from).0
accepts_so own peers roster up_to_date begun s steps (inr (now, is)) lasts =
    let from = subst (λ (x : KeptSession). Lasts x steps s) is lasts in
    let run = staying_lasts steps (kept_from now (plain (accepting own peers roster up_to_date))) s (pace_at now (accepting own peers roster up_to_date).known.roster) refl from in
    decided_by_answer_while_staying own peers roster up_to_date now (standing s.session run.0) steps run.1

-- ---- the confirmation and the fault

confirmed_in : (roster : List Definition) (begun s : KeptSession) (steps : List Happening) → Ran roster begun steps s → s.session.confirmed ≡ was_confirmed (handed steps)
confirmed_in roster begun s steps (inl (begins, runs, is)) = sent_where_confirmed roster begun.session s.session (handed steps) begins runs
confirmed_in roster begun s steps (inr (p, q, begins, lasts, is)) = sent_while_staying roster (standing begun.session p) (standing s.session q) steps begins lasts

pub confirmed_so : (roster : List Definition) (begun s : KeptSession) (steps : List Happening) → Begins roster begun → Lasts begun steps s → s.session.confirmed ≡ was_confirmed (handed steps)
confirmed_so roster begun s steps begins lasts = confirmed_in roster begun s steps (ran roster begun s steps begins lasts)

faultless_in : (roster : List Definition) (begun s : KeptSession) (steps : List Happening) → Ran roster begun steps s → (s.session.phase ≡ phases.Ended) ⊎ (s.session.fault ≡ None)
faultless_in roster begun s steps (inl (begins, runs, is)) = faultless_until_over roster begun.session s.session (handed steps) begins runs
faultless_in roster begun s steps (inr (p, q, begins, lasts, is)) = faultless_while_staying roster (standing begun.session p) (standing s.session q) steps begins lasts

pub faultless_so : (roster : List Definition) (begun s : KeptSession) (steps : List Happening) → Begins roster begun → Lasts begun steps s → (s.session.phase ≡ phases.Ended) ⊎ (s.session.fault ≡ None)
faultless_so roster begun s steps begins lasts = faultless_in roster begun s steps (ran roster begun s steps begins lasts)

-- ---- a step is unique

abbrev kept_with : SessionState → Manner → Heard → Counts → KeptSession
kept_with session manner heard counts = record { session = session; manner = manner; heard = heard; counts = counts }

kept_same : (a b : KeptSession) → a.session ≡ b.session → a.manner ≡ b.manner → a.heard ≡ b.heard → a.counts ≡ b.counts → a ≡ b
kept_same a b session manner heard counts =
    ap (λ (x : SessionState). kept_with x a.manner a.heard a.counts) session
    ∙ (ap (λ (x : Manner). kept_with b.session x a.heard a.counts) manner
    ∙ (ap (λ (x : Heard). kept_with b.session b.manner x a.counts) heard
    ∙ ap (λ (x : Counts). kept_with b.session b.manner b.heard x) counts))

once_as : (m : Manner) (s e end : KeptSession) (now : ℕ) (event : Event) (acts others : List Action) → StepsAs m s now event acts e → StepsAs m s now event others end → (acts ≡ others) × (e.session ≡ end.session) × (e.manner ≡ end.manner)
once_as manners.Plain s e end now event acts others (goes, is) (goes_too, is_too) =
    let one = goes_once s.session e.session end.session event acts others goes goes_too in
    (one.0, one.1, is ∙ sym is_too)
once_as (manners.Staying p) s e end now event acts others (q, stands, is) (r, stands_too, is_too) =
    let one = stands_once (standing s.session p) (standing e.session q) (standing end.session r) now event acts others stands stands_too in
    (one.0, ap (λ (x : StandingState). x.session) one.1, is ∙ (ap (λ (x : StandingState). manners.Staying x.pace) one.1 ∙ sym is_too))

pub step_once : (s e end : KeptSession) (now : ℕ) (event : Event) (acts others : List Action) → Steps s now event acts e → Steps s now event others end → (acts ≡ others) × (e ≡ end)
step_once s e end now event acts others (one, counts, asks) (other, counts_too, asks_too) =
    let same = once_as s.manner s e end now event acts others one other in (
      same.0,
      kept_same e end same.1 same.2 (counted_once event s.session.phase s.heard e.heard end.heard counts counts_too) (asks ∙ (ap (λ (xs : List Action). asked_as s.manner xs s.counts) same.0 ∙ sym asks_too)),
    )

pub step_whenever : (s e : KeptSession) (m n : ℕ) (event : Event) (acts : List Action) → s.manner ≡ manners.Plain → Steps s m event acts e → Steps s n event acts e
step_whenever s e m n event acts is (one, counts, asks) =
    (subst (λ (x : Manner). StepsAs x s n event acts e) (sym is) (subst (λ (x : Manner). StepsAs x s m event acts e) is one), counts, asks)

-- ---- a step exists

step_keeps : (m : Manner) (s e : KeptSession) (now : ℕ) (event : Event) (acts : List Action) → HoldsBytes s.session.phase → BringsBytes event → StepsAs m s now event acts e → HoldsBytes e.session.phase
step_keeps manners.Plain s e now event acts holds brings (goes, is) = step_holds s.session e.session event acts holds brings goes
step_keeps (manners.Staying p) s e now event acts holds brings (q, stands, is) = holds_stands event (standing s.session p) (standing e.session q) now acts holds brings stands

pub steps_hold : (s e : KeptSession) (now : ℕ) (event : Event) (acts : List Action) → HoldsBytes s.session.phase → BringsBytes event → Steps s now event acts e → HoldsBytes e.session.phase
steps_hold s e now event acts holds brings steps = step_keeps s.manner s e now event acts holds brings steps.0

abbrev SomeHeard : (Heard → Type 0) → Type 0
SomeHeard P = (m : Heard) × P m

counts_bytes : (n : Heard) (s : SessionState) (c : Course) (bytes : List ℕ) (mid : Course) (result : Result (Unit {0}) Halt) (first given acts : List Action) (e : SessionState) → ReceivesAll (course_fed c bytes) result given mid → Concludes s mid result first acts e → SomeHeard (CountsBytes c bytes n)
counts_bytes n s c bytes mid (Ok u) first given acts e (ts, are, waits) concludes =
    (record { controls = all_counted ts n.controls; passed_over = passed_by mid.tolerance }, (ts, (given, mid, are, inl waits, refl), refl))
counts_bytes n s c bytes mid (Err halts.Failed) first given acts e (ts, last, are, halted) concludes =
    let wanted : halts.Failed ≢ halts.Memory = λ bad. cc in
    (record { controls = all_counted ts n.controls; passed_over = passed_by last.tolerance }, (ts, (given, last, are, inr (halts.Failed, wanted, halted), refl), refl))
counts_bytes n s c bytes mid (Err (halts.Fault fault)) first given acts e (ts, last, are, halted) concludes =
    let wanted : halts.Fault fault ≢ halts.Memory = λ bad. cc in
    (record { controls = all_counted ts n.controls; passed_over = passed_by last.tolerance }, (ts, (given, last, are, inr (halts.Fault fault, wanted, halted), refl), refl))
counts_bytes n s c bytes mid (Err halts.Memory) first given acts e receives concludes = absurd concludes

counts_from : (n : Heard) (s : SessionState) (c : Course) (bytes : List ℕ) (first acts : List Action) (e : SessionState) → ReceivesBytes s (course_fed c bytes) first acts e → SomeHeard (CountsBytes c bytes n)
counts_from n s c bytes first acts e (result, given, mid, receives, concludes) = counts_bytes n s c bytes mid result (first ++ given) given acts e receives concludes

counts_met : (n : Heard) (m : Meeting) (s : SessionState) (greeter : Greeter) (bytes : List ℕ) (c : Course) (acts : List Action) (e : SessionState) → Met m s greeter bytes c acts e → SomeHeard (CountsAfter m c n)
counts_met n (Opens version rest) s greeter bytes c acts e (first, silent, sends, receives) = counts_from n (speaking version s) c rest (first ∷ opening version c.shares) acts e receives
counts_met n (Refuses code) s greeter bytes c acts e met = (n, refl)
counts_met n Waits s greeter bytes c acts e met = (n, refl)

counts_hello : (n : Heard) (s : SessionState) (greeter : Greeter) (bytes piece : List ℕ) (c : Course) (acts : List Action) (e : SessionState) → GoesIn (phases.Hello greeter bytes c) s (events.Bytes piece) acts e → SomeHeard (CountsIn (phases.Hello greeter bytes c) piece n)
counts_hello n s (greeters.Connects version) bytes piece c acts e goes =
    counts_met n (by_status version (status_of (bytes ++ piece)) (bytes ++ piece)) s (greeters.Connects version) (bytes ++ piece) c acts e (greets_meets (greeters.Connects version) s (bytes ++ piece) c acts e goes)
counts_hello n s (greeters.Accepts own peers) bytes piece c acts e goes =
    counts_met n (by_answer (answer_of own peers (bytes ++ piece)) (bytes ++ piece)) s (greeters.Accepts own peers) (bytes ++ piece) c acts e (greets_meets (greeters.Accepts own peers) s (bytes ++ piece) c acts e goes)

counts_in : (n : Heard) (phase : Phase) (s : SessionState) (piece : List ℕ) (acts : List Action) (e : SessionState) → GoesIn phase s (events.Bytes piece) acts e → SomeHeard (CountsIn phase piece n)
counts_in n (phases.Open c) s piece acts e (due, receives) = counts_from n s c piece [] acts e receives
counts_in n (phases.Hello greeter bytes c) s piece acts e goes = counts_hello n s greeter bytes piece c acts e goes
counts_in n (phases.New hello c) s piece acts e goes = absurd goes
counts_in n phases.Ended s piece acts e goes = absurd goes

some_heard : (event : Event) (s : SessionState) (n : Heard) → HoldsBytes s.phase → BringsBytes event → is_asked s.phase event ≡ true → SomeHeard (CountsEvent event s.phase n)
some_heard (events.Bytes bytes) s n holds brings asked =
    let one = some_step s (events.Bytes bytes) holds brings asked in
    counts_in n s.phase s bytes one.0 one.1 one.2
some_heard events.Opened s n holds brings asked = (n, refl)
some_heard events.End s n holds brings asked = (n, refl)
some_heard events.ReadFault s n holds brings asked = (n, refl)
some_heard events.Turn s n holds brings asked = (n, refl)
some_heard events.Tick s n holds brings asked = (n, refl)
some_heard events.Ask s n holds brings asked = (n, refl)
some_heard events.CaughtUp s n holds brings asked = (n, refl)
some_heard (events.Copied table batch) s n holds brings asked = (n, refl)
some_heard (events.Nothing table) s n holds brings asked = (n, refl)
some_heard (events.Written known) s n holds brings asked = (n, refl)
some_heard events.WriteFault s n holds brings asked = (n, refl)
some_heard (events.Settled table settled) s n holds brings asked = (n, refl)
some_heard (events.Refused table) s n holds brings asked = (n, refl)

-- the step that a session makes, whatever it counts
abbrev HasStepAs : Manner → KeptSession → ℕ → Event → Type 0
HasStepAs m s now event = (acts : List Action) × (session : SessionState) × (manner : Manner) × ((n : Heard) (k : Counts) → StepsAs m s now event acts (kept_with session manner n k))

some_as : (m : Manner) (s : KeptSession) (now : ℕ) (event : Event) → HoldsBytes s.session.phase → BringsBytes event → is_asked s.session.phase event ≡ true → HasStepAs m s now event
some_as manners.Plain s now event holds brings asked =
    let one = some_step s.session event holds brings asked in
    (one.0, one.1, manners.Plain, (λ n k. (one.2, refl)))
some_as (manners.Staying p) s now event holds brings asked =
    let one = some_event event (standing s.session p) now holds brings asked in
    (one.0, one.1.session, manners.Staying one.1.pace, (λ n k. (one.1.pace, one.2, refl)))

ticks_as : (m : Manner) (s : KeptSession) (now : ℕ) → is_asked s.session.phase events.Tick ≡ true → HasStepAs m s now events.Tick
ticks_as manners.Plain s now asked =
    let one = ticks_anyway s.session asked in
    ([], one.0, manners.Plain, (λ n k. (one.1, refl)))
ticks_as (manners.Staying p) s now asked =
    let one = some_ticks (standing s.session p) now asked in
    (one.0, one.1.session, manners.Staying one.1.pace, (λ n k. (one.1.pace, one.2, refl)))

pub some_tick_steps : (s : KeptSession) (now : ℕ) → is_asked s.session.phase events.Tick ≡ true → (acts : List Action) × (e : KeptSession) × Steps s now events.Tick acts e
some_tick_steps s now asked =
    let one = ticks_as s.manner s now asked in
    let counts : Counts = asked_as s.manner one.0 s.counts in
    (one.0, kept_with one.1 one.2 s.heard counts, (one.3 s.heard counts, refl, refl))

pub some_steps : (s : KeptSession) (now : ℕ) (event : Event) → HoldsBytes s.session.phase → BringsBytes event → is_asked s.session.phase event ≡ true → (acts : List Action) × (e : KeptSession) × Steps s now event acts e
some_steps s now event holds brings asked =
    let one = some_as s.manner s now event holds brings asked in
    let heard = some_heard event s.session s.heard holds brings asked in
    let counts : Counts = asked_as s.manner one.0 s.counts in
    (one.0, kept_with one.1 one.2 heard.0 counts, (one.3 heard.0 counts, heard.1, refl))

changed_holds : (phase : Phase) → HoldsBytes phase → HoldsBytes (changed staying phase)
changed_holds (phases.New hello c) holds = holds
changed_holds (phases.Hello greeter bytes c) holds = holds
changed_holds (phases.Open c) holds = holds
changed_holds phases.Ended holds = holds

begins_hold : (roster : List Definition) (begun : KeptSession) → Begins roster begun → HoldsBytes begun.session.phase
begins_hold roster begun (first, begins, inl is) = subst (λ (x : KeptSession). HoldsBytes x.session.phase) (sym is) (begun_holds roster first begins)
begins_hold roster begun (first, begins, inr (now, is)) = subst (λ (x : KeptSession). HoldsBytes x.session.phase) (sym is) (changed_holds first.phase (begun_holds roster first begins))

lasts_hold : (steps : List Happening) (s e : KeptSession) → HoldsBytes s.session.phase → AllByRecursion HearsBytes steps → Lasts s steps e → HoldsBytes e.session.phase
lasts_hold [] s e holds all here = subst (λ (x : KeptSession). HoldsBytes x.session.phase) (sym here) holds
lasts_hold (one ∷ steps) s e holds all (mid, takes, lasts) = lasts_hold steps mid e (steps_hold s mid one.now one.event one.acts holds all.0 takes) all.1 lasts

pub some_steps_after : (roster : List Definition) (begun s : KeptSession) (steps : List Happening) (now : ℕ) (event : Event) → Begins roster begun → Lasts begun steps s → AllByRecursion HearsBytes steps → BringsBytes event → is_asked s.session.phase event ≡ true
    → (acts : List Action) × (e : KeptSession) × Steps s now event acts e
some_steps_after roster begun s steps now event begins lasts all brings asked =
    some_steps s now event (lasts_hold steps begun s (begins_hold roster begun begins) all lasts) brings asked

-- ---- bytes that are cut

pub fed_goes : (m : Manner) (s e : KeptSession) (now : ℕ) (bytes : List ℕ) (acts : List Action) → StepsAs m s now (events.Bytes bytes) acts e → Goes s.session (events.Bytes bytes) acts e.session
fed_goes manners.Plain s e now bytes acts (goes, is) = goes
fed_goes (manners.Staying p) s e now bytes acts (q, (goes, pace), is) = goes

pub are_fed : (pieces : List (List ℕ)) (s e : KeptSession) (acts : List Action) → AreFed s pieces acts e → IsFed s.session pieces acts e.session
are_fed [] s e acts (none, here) = (none, ap (λ (x : KeptSession). x.session) here)
are_fed (piece ∷ pieces) s e acts (now, one, rest, mid, is, steps, fed) =
    (one, rest, mid.session, is, fed_goes s.manner s mid now piece one steps.0, are_fed pieces mid e rest fed)

pub fed_the_same : (s e end : KeptSession) (c : Course) (first piece more rest : List ℕ) (pieces others : List (List ℕ)) (acts given : List Action)
    → s.session.phase ≡ phases.Open c → HoldsBytes s.session.phase → IsBytes (together (first ∷ pieces) ++ more) → together (first ∷ pieces) ++ more ≡ together (piece ∷ others) ++ rest
    → AreFed s (first ∷ pieces) acts e → AreFed s (piece ∷ others) given end → IsFedOut more e.session → IsFedOut rest end.session
    → (without_acks acts ≡ without_acks given) × (e.session ≡ end.session)
fed_the_same s e end c first piece more rest pieces others acts given opens holds good cut one other out out' =
    same_however_fed s.session e.session end.session c first piece more rest pieces others acts given opens holds good cut (are_fed (first ∷ pieces) s e acts one) (are_fed (piece ∷ others) s end given other) out out'

abbrev pub HearsAs : (ℕ → ℕ → Bool) → SessionState → SessionState → Event → List Action → List (ℕ × ℕ) → List (ℕ × ℕ) → Type 0
HearsAs settles s mid event acts due rest = Goes s (received_as event) acts mid × Awaits settles s (received_as event) acts due rest × (bytes_of (received_as event) ≡ bytes_of event)

hears_plain : (settles : ℕ → ℕ → Bool) (event : Event) (s mid : SessionState) (due rest : List (ℕ × ℕ)) (acts : List Action) → Goes s event acts mid → AwaitsIn settles manners.Plain s event acts due rest → HearsAs settles s mid event acts due rest
hears_plain settles (events.Bytes bytes) s mid due rest acts goes awaits = (goes, awaits, refl)
hears_plain settles (events.Settled table answer) s mid due rest acts goes awaits = (goes, awaits, refl)
hears_plain settles (events.Refused table) s mid due rest acts goes awaits = absurd awaits
hears_plain settles events.Turn s mid due rest acts goes awaits = absurd awaits
hears_plain settles events.Tick s mid due rest acts goes awaits = absurd awaits
hears_plain settles events.Ask s mid due rest acts goes awaits = absurd awaits
hears_plain settles events.CaughtUp s mid due rest acts goes awaits = absurd awaits
hears_plain settles events.Opened s mid due rest acts goes awaits = absurd awaits
hears_plain settles events.End s mid due rest acts goes awaits = absurd awaits
hears_plain settles events.ReadFault s mid due rest acts goes awaits = absurd awaits
hears_plain settles events.WriteFault s mid due rest acts goes awaits = absurd awaits
hears_plain settles (events.Copied table batch) s mid due rest acts goes awaits = absurd awaits
hears_plain settles (events.Nothing table) s mid due rest acts goes awaits = absurd awaits
hears_plain settles (events.Written known) s mid due rest acts goes awaits = absurd awaits

pub hears_as : (settles : ℕ → ℕ → Bool) (m : Manner) (event : Event) (s mid : KeptSession) (due rest : List (ℕ × ℕ)) (now : ℕ) (acts : List Action) → StepsAs m s now event acts mid → AwaitsIn settles m s.session event acts due rest → HearsAs settles s.session mid.session event acts due rest
hears_as settles manners.Plain event s mid due rest now acts (goes, is) awaits = hears_plain settles event s.session mid.session due rest acts goes awaits
hears_as settles (manners.Staying p) event s mid due rest now acts (q, stands, is) awaits = hears_one settles event (standing s.session p) (standing mid.session q) due rest now acts stands awaits

-- the machine hears the same, and asks for the same
hears_all : (settles : ℕ → ℕ → Bool) (s e : KeptSession) (due left : List (ℕ × ℕ)) (steps : List Happening) → Hears settles s due steps e left
    → HearsAll settles s.session due (steps_of steps) e.session left × (heard_in (steps_of steps) ≡ heard_in (handed steps)) × (asked_in (steps_of steps) ≡ asked_in (handed steps))
hears_all settles s e due left [] (here, is) = ((ap (λ (t : KeptSession). t.session) here, is), refl, refl)
hears_all settles s e due left (one ∷ steps) (mid, rest, takes, awaits, again) =
    let step = hears_as settles s.manner one.event s mid due rest one.now one.acts takes.0 awaits in
    let later = hears_all settles mid e rest left steps again in
    ((mid.session, rest, step.0, step.1, later.0), rw (step.2, later.1) refl, ap (λ (x : List Action). one.acts ++ x) later.2)

pub answers_alike : (settles : ℕ → ℕ → Bool) (s e end : KeptSession) (c : Course) (one other : Happening) (steps others : List Happening) (more rest : List ℕ) (left over : List (ℕ × ℕ))
    → s.session.phase ≡ phases.Open c → HoldsBytes s.session.phase
    → IsBytes (heard_in (handed (one ∷ steps)) ++ more) → heard_in (handed (one ∷ steps)) ++ more ≡ heard_in (handed (other ∷ others)) ++ rest
    → Hears settles s [] (one ∷ steps) e left → Hears settles s [] (other ∷ others) end over → IsFedOut more e.session → IsFedOut rest end.session
    → AreAlike settles c s.session (asked_in (handed (one ∷ steps))) (asked_in (handed (other ∷ others))) e.session end.session left over
answers_alike settles s e end c one other steps others more rest left over opens holds good cut first again out out' =
    let way = hears_all settles s e [] left (one ∷ steps) first in
    let way' = hears_all settles s end [] over (other ∷ others) again in
    subst (λ (acts : List Action). AreAlike settles c s.session acts (asked_in (handed (other ∷ others))) e.session end.session left over) way.2
    (subst (λ (acts : List Action). AreAlike settles c s.session (asked_in (steps_of (one ∷ steps))) acts e.session end.session left over) way'.2
    (heard_however_cut settles s.session e.session end.session c (step_of one) (step_of other) (steps_of steps) (steps_of others) more rest left over opens holds
    (subst (λ (b : List ℕ). IsBytes (b ++ more)) (sym way.1) good)
    (ap (λ (b : List ℕ). b ++ more) way.1 ∙ (cut ∙ ap (λ (b : List ℕ). b ++ rest) (sym way'.1)))
    way.0 way'.0 out out'))

none_due : (roster : List Definition) (begun s : KeptSession) (before : List Happening) (greeter : Greeter) (bytes : List ℕ) (c : Course) → Ran roster begun before s → s.session.phase ≡ phases.Hello greeter bytes c → c.due ≡ []
none_due roster begun s before greeter bytes c (inl (begins, runs, is)) opens = none_due_in_hello roster begun.session s.session (handed before) greeter bytes c begins runs opens
none_due roster begun s before greeter bytes c (inr (p, q, begins, lasts, is)) opens =
    let ids : List ℕ = ids_of (rest_after roster before) in
    let kept : IsKeptIn true ids (handed before) s.session.phase = lasts_kept before roster [] (standing begun.session p) (standing s.session q) (begun_kept roster (standing begun.session p) begins) lasts in
    (subst (IsKeptIn true ids (handed before)) opens kept).2

pub greetings_alike : (settles : ℕ → ℕ → Bool) (roster : List Definition) (begun s e end : KeptSession) (before : List Happening) (greeter : Greeter) (bytes : List ℕ) (c : Course) (one other : Happening) (steps others : List Happening) (more rest : List ℕ) (left over : List (ℕ × ℕ))
    → Begins roster begun → Lasts begun before s → s.session.phase ≡ phases.Hello greeter bytes c → HoldsBytes s.session.phase
    → IsBytes (heard_in (handed (one ∷ steps)) ++ more) → heard_in (handed (one ∷ steps)) ++ more ≡ heard_in (handed (other ∷ others)) ++ rest
    → Hears settles s [] (one ∷ steps) e left → Hears settles s [] (other ∷ others) end over → IsFedOut more e.session → IsFedOut rest end.session
    → AreAlike settles c s.session (asked_in (handed (one ∷ steps))) (asked_in (handed (other ∷ others))) e.session end.session left over
greetings_alike settles roster begun s e end before greeter bytes c one other steps others more rest left over begins lasts opens holds good cut first again out out' =
    let way = hears_all settles s e [] left (one ∷ steps) first in
    let way' = hears_all settles s end [] over (other ∷ others) again in
    subst (λ (acts : List Action). AreAlike settles c s.session acts (asked_in (handed (other ∷ others))) e.session end.session left over) way.2
    (subst (λ (acts : List Action). AreAlike settles c s.session (asked_in (steps_of (one ∷ steps))) acts e.session end.session left over) way'.2
    (greeting_however_cut settles s.session e.session end.session greeter bytes c (step_of one) (step_of other) (steps_of steps) (steps_of others) more rest left over
    (none_due roster begun s before greeter bytes c (ran roster begun s before begins lasts) opens) opens holds
    (subst (λ (b : List ℕ). IsBytes (b ++ more)) (sym way.1) good)
    (ap (λ (b : List ℕ). b ++ more) way.1 ∙ (cut ∙ ap (λ (b : List ℕ). b ++ rest) (sym way'.1)))
    way.0 way'.0 out out'))
