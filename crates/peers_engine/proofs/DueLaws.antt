-- Nothing is due between turns: as many answers are given as the actions of a turn have.
use Rattle.std.proofs.Common.{arith, ◌≡◌, ◌⊎◌, ◌+◌, ℕ, Bool, true, false, List, [], ◌∷◌, ◌++◌, length, Option, Some, None, refl, sym, ap, ◌∙◌, subst, inl, inr}
use Rattle.std.proofs.lemmas.Bool.{false≢true}
use Rattle.std.proofs.lemmas.List.{append-nil, nil_from_length}
use Rattle.std.proofs.lemmas.List.Concat.{flat_map-append}
use Rattle.table_types.specs.Tables.{Definition}
use Rattle.table_types.specs.declared.copies.CopyKind.{CopyKind}
use Rattle.table_shards.specs.Receipts.{SeatState}
use Rattle.session_core.specs.declared.action.Action.{Action}
use Rattle.session_core.specs.declared.action.Action.TheVariants as actions
use Rattle.session_core.specs.declared.error.SessionError.{SessionError}
use Rattle.session_core.specs.declared.error.SessionError.TheVariants as refusals
use Rattle.session_core.specs.declared.event.Event.{Event}
use Rattle.session_core.specs.declared.event.Event.TheVariants as events
use Rattle.session_core.specs.Courses.{state_of_course, staying}
use Rattle.session_core.specs.Happenings.{Begins, BeginsAs}
use Rattle.session_core.specs.Hearing.{asked_in}
use Rattle.session_core.specs.Keeping.{KeptSession, Steps, is_staying}
use Rattle.session_core.specs.Phases.{Phase}
use Rattle.session_core.specs.Phases as phases
use Rattle.session_core.specs.Runs.{IsBegun}
use Rattle.session_core.specs.Sessions.{SessionState, IsWhy, Refuses, is_asked_hello, is_asked_new, is_asked_open, state_of}
use Rattle.session_core.specs.Standing.{changed}
use Rattle.peers_engine.specs.Calls.{IsCopied}
use Rattle.peers_engine.specs.Doing.{Done}
use Rattle.peers_engine.specs.Acting.{Acts, IsGiven, IsGivenIn, Worker, stands}
use Rattle.peers_engine.specs.Turns.{HasNothingDue, Idles, Reacts, is_own}
use Rattle.session_core.proofs.DueCounts.{answers_of, answers_on, due_in, given_by, level, steps_balance, weight}

abbrev given_in : Option Event → ℕ
given_in None = 0
given_in (Some event) = given_by event

-- ---- one action after another

-- The session is over; or of the answers due, as many as the actions have were given, and those of what they asked for are due.
abbrev Leaves : Phase → ℕ → List (Event × List Action) → Phase → Type 0
Leaves a given answers b = (b ≡ phases.Ended) ⊎ (due_in b + given ≡ due_in a + answers_of (asked_in answers))

copied_gives : (stays : Bool) (n now : ℕ) (s t : SeatState) (table : ℕ) (kind : CopyKind) (event : Event) → IsCopied stays n now s table kind t event → given_by event ≡ 1
copied_gives stays n now s t table kind event (c, at, is, inl (batch, copied, call)) = ap given_by copied
copied_gives stays n now s t table kind event (c, at, is, inr (nothing, call)) = ap given_by nothing

done_gives : (stays : Bool) (n now : ℕ) (x : SessionState) (s t : SeatState) (act : Action) (out : List ℕ) (answer : Option Event) → Done stays n now x s act out answer t → given_in answer ≡ weight act
done_gives stays n now x s t (actions.Send bytes) out answer (written, none, same) = ap given_in none
done_gives stays n now x s t (actions.Learn u) out answer (written, none, learned) = ap given_in none
done_gives stays n now x s t (actions.Ack table number) out answer (none, event, is, inl (settled, same, call)) = ap given_in is ∙ ap given_by same
done_gives stays n now x s t (actions.Ack table number) out answer (none, event, is, inr (same, call)) = ap given_in is ∙ ap given_by same
done_gives stays n now x s t (actions.Reopen table) out answer (written, none, reopened) = ap given_in none
done_gives stays n now x s t (actions.Copy table kind) out answer (none, event, is, copied) = ap given_in is ∙ copied_gives stays n now s t table kind event copied
done_gives stays n now x s t (actions.Teach batch) out answer (after, lesson, is, settled) = ap given_in is
done_gives stays n now x s t (actions.Part kind) out answer (written, none, same) = ap given_in none
done_gives stays n now x s t actions.Close out answer (written, none, same) = ap given_in none

abbrev IsOneStep : KeptSession → ℕ → Event → List (Event × List Action) → KeptSession → Type 0
IsOneStep s now event steps e = (acts : List Action) × Steps s now event acts e × (steps ≡ (event, acts) ∷ [])

step_leaves : (s e : KeptSession) (now : ℕ) (event : Event) (steps : List (Event × List Action)) → IsOneStep s now event steps e → Leaves s.session.phase (given_by event) steps e.session.phase
step_leaves s e now event steps (acts, taken, is) = elim (steps_balance s.manner s e now event acts taken.0) [
  | inl over ↦ inl over
  | inr count ↦ inr (count ∙ ap (λ (n : ℕ). due_in s.session.phase + n) (sym (ap answers_of (ap asked_in is ∙ append-nil acts))))
]

open_step : (teaching : Bool) (s e : KeptSession) (now : ℕ) (event : Event) (steps : List (Event × List Action)) → IsGivenIn (state_of_course teaching) s now event steps e → IsOneStep s now event steps e
open_step true s e now event steps one = one
open_step false s e now event steps one = one

-- a session that is over stays over
given_over : (phase : Phase) (s e : KeptSession) (now : ℕ) (event : Event) (steps : List (Event × List Action)) → phase ≡ phases.Ended → IsGivenIn (state_of phase) s now event steps e → e ≡ s
given_over phases.Ended s e now event steps over given = given.1
given_over (phases.New hello c) s e now event steps over given = absurd (cc over)
given_over (phases.Hello greeter bytes c) s e now event steps over given = absurd (cc over)
given_over (phases.Open c) s e now event steps over given = absurd (cc over)

is_given_over : (s e : KeptSession) (now : ℕ) (answer : Option Event) (steps : List (Event × List Action)) → s.session.phase ≡ phases.Ended → IsGiven s now answer steps e → e ≡ s
is_given_over s e now None steps over (none, same) = same
is_given_over s e now (Some event) steps over given = given_over s.session.phase s e now event steps over given

acts_over : (w e : Worker) (acts : List Action) (answers : List (Event × List Action)) (out : List ℕ) → w.session.session.phase ≡ phases.Ended → Acts w acts answers out e → e.session.session.phase ≡ phases.Ended
acts_over w e [] answers out over (none, nothing, same) = ap (λ (x : Worker). x.session.session.phase) same ∙ over
acts_over w e (act ∷ acts) answers out over (bytes, more, answer, first, rest, seat, mid, done, given, after, is, written) =
    acts_over (stands w mid seat) e acts rest more (ap (λ (x : KeptSession). x.session.phase) (is_given_over w.session mid w.now answer first over given) ∙ over) after

given_leaves : (phase : Phase) (s e : KeptSession) (now : ℕ) (event : Event) (steps : List (Event × List Action)) → s.session.phase ≡ phase → IsGivenIn (state_of phase) s now event steps e → Leaves s.session.phase (given_by event) steps e.session.phase
given_leaves phases.Ended s e now event steps over (none, same) = inl (ap (λ (x : KeptSession). x.session.phase) same ∙ over)
given_leaves (phases.New hello c) s e now event steps stands one = step_leaves s e now event steps one
given_leaves (phases.Hello greeter bytes c) s e now event steps stands one = step_leaves s e now event steps one
given_leaves (phases.Open c) s e now event steps stands given = step_leaves s e now event steps (open_step c.teaching s e now event steps given)

answer_leaves : (s e : KeptSession) (now : ℕ) (answer : Option Event) (steps : List (Event × List Action)) → IsGiven s now answer steps e → Leaves s.session.phase (given_in answer) steps e.session.phase
answer_leaves s e now None steps (none, same) =
    inr (level (due_in e.session.phase) 0 (due_in s.session.phase) (answers_of (asked_in steps)) (ap (λ (x : KeptSession). due_in x.session.phase) same) refl (ap (λ (x : List (Event × List Action)). answers_of (asked_in x)) none))
answer_leaves s e now (Some event) steps given = given_leaves s.session.phase s e now event steps refl given

one_more : (e m d w g acts f r all : ℕ) → m + g ≡ d + f → e + acts ≡ m + r → w ≡ g → all ≡ f + r → e + (w + acts) ≡ d + all
one_more e m d w g acts f r all first then gives joined = omega (arith, first, then, gives, joined)

asked_on : (first rest : List (Event × List Action)) → answers_of (asked_in (first ++ rest)) ≡ answers_of (asked_in first) + answers_of (asked_in rest)
asked_on first rest = ap answers_of (flat_map-append (λ (step : Event × List Action). step.1) first rest) ∙ answers_on (asked_in first) (asked_in rest)

acts_leave : (w e : Worker) (acts : List Action) (answers : List (Event × List Action)) (out : List ℕ) → Acts w acts answers out e → Leaves w.session.session.phase (answers_of acts) answers e.session.session.phase
acts_leave w e [] answers out (none, nothing, same) =
    inr (level (due_in e.session.session.phase) 0 (due_in w.session.session.phase) (answers_of (asked_in answers)) (ap (λ (x : Worker). due_in x.session.session.phase) same) refl (ap (λ (x : List (Event × List Action)). answers_of (asked_in x)) none))
acts_leave w e (act ∷ acts) answers out (bytes, more, answer, first, rest, seat, mid, done, given, after, is, written) =
    elim (answer_leaves w.session mid w.now answer first given) [
      | inl over ↦ inl (acts_over (stands w mid seat) e acts rest more over after)
      | inr count ↦ elim (acts_leave (stands w mid seat) e acts rest more after) [
        | inl over ↦ inl over
        | inr then ↦ inr (one_more (due_in e.session.session.phase) (due_in mid.session.phase) (due_in w.session.session.phase) (weight act) (given_in answer) (answers_of acts) (answers_of (asked_in first)) (answers_of (asked_in rest)) (answers_of (asked_in answers))
            count then (sym (done_gives (is_staying w.session.manner) w.number w.now w.session.session w.seat seat act bytes answer done)) (ap (λ (x : List (Event × List Action)). answers_of (asked_in x)) is ∙ asked_on first rest))
      ]
    ]

-- ---- nothing is due

none_of : (phase : Phase) → HasNothingDue phase → due_in phase ≡ 0
none_of (phases.New hello c) none = ap length none
none_of (phases.Hello greeter bytes c) none = ap length none
none_of (phases.Open c) none = ap length none
none_of phases.Ended none = refl

of_none : (phase : Phase) → due_in phase ≡ 0 → HasNothingDue phase
of_none (phases.New hello c) none = nil_from_length c.due none
of_none (phases.Hello greeter bytes c) none = nil_from_length c.due none
of_none (phases.Open c) none = nil_from_length c.due none
of_none phases.Ended none = tt

over_none : (phase : Phase) → phase ≡ phases.Ended → HasNothingDue phase
over_none phase over = of_none phase (ap due_in over)

all_given : (x t m q g d a : ℕ) → x + t ≡ m + q → t ≡ a + q → m + g ≡ d + a → d ≡ 0 → x ≡ 0
all_given x t m q g d a last both first none = omega (arith, last, both, first, none)

pub none_after_event : (w e : Worker) (event : Event) (out : List ℕ) → HasNothingDue w.session.session.phase → Reacts w event out e → HasNothingDue e.session.session.phase
none_after_event w e event out none (acts, answers, mid, taken, done) = elim (steps_balance w.session.manner w.session mid w.now event acts taken.0) [
  | inl over ↦ over_none e.session.session.phase (acts_over (stands w mid w.seat) e (acts ++ asked_in answers) answers out over done)
  | inr first ↦ elim (acts_leave (stands w mid w.seat) e (acts ++ asked_in answers) answers out done) [
    | inl over ↦ over_none e.session.session.phase over
    | inr last ↦ of_none e.session.session.phase
        (all_given (due_in e.session.session.phase) (answers_of (acts ++ asked_in answers)) (due_in mid.session.phase) (answers_of (asked_in answers)) (given_by event) (due_in w.session.session.phase) (answers_of acts)
        last (answers_on acts (asked_in answers)) first (none_of w.session.session.phase none))
  ]
]

pub none_after_idling : (w e : Worker) (event : Event) → HasNothingDue w.session.session.phase → Idles w event e → HasNothingDue e.session.session.phase
none_after_idling w e event none (acts, answers, mid, taken, pushes, done, nothing) =
    none_after_event w e event [] none (acts, answers, mid, taken, subst (λ (x : List Action). Acts (stands w mid w.seat) x answers [] e) (sym (ap (λ (x : List Action). acts ++ x) nothing ∙ append-nil acts)) done)

-- ---- at the beginning

none_staying : (phase : Phase) → HasNothingDue phase → HasNothingDue (changed staying phase)
none_staying (phases.New hello c) none = none
none_staying (phases.Hello greeter bytes c) none = none
none_staying (phases.Open c) none = none
none_staying phases.Ended none = tt

begun_none : (roster : List Definition) (first : SessionState) → IsBegun roster first → HasNothingDue first.phase
begun_none roster first (inl (hello, up_to_date, is)) = subst (λ (x : SessionState). HasNothingDue x.phase) (sym is) refl
begun_none roster first (inr (own, peers, up_to_date, is)) = subst (λ (x : SessionState). HasNothingDue x.phase) (sym is) refl

begun_as_none : (first : SessionState) (s : KeptSession) → HasNothingDue first.phase → BeginsAs first s → HasNothingDue s.session.phase
begun_as_none first s none (inl is) = subst (λ (x : KeptSession). HasNothingDue x.session.phase) (sym is) none
begun_as_none first s none (inr (now, is)) = subst (λ (x : KeptSession). HasNothingDue x.session.phase) (sym is) (none_staying first.phase none)

pub none_at_first : (roster : List Definition) (s : KeptSession) → Begins roster s → HasNothingDue s.session.phase
none_at_first roster s (first, begun, begins) = begun_as_none first s (begun_none roster first begun) begins

-- ---- what is refused then

own_new : (event : Event) → is_own event ≡ true → is_asked_new event ≡ true
own_new events.Turn own = refl
own_new events.Tick own = refl
own_new events.Ask own = refl
own_new events.CaughtUp own = refl
own_new events.Opened own = refl
own_new events.End own = refl
own_new events.ReadFault own = refl
own_new events.WriteFault own = refl
own_new (events.Bytes bytes) own = own
own_new (events.Copied table batch) own = own
own_new (events.Nothing table) own = own
own_new (events.Written known) own = own
own_new (events.Settled table settled) own = own
own_new (events.Refused table) own = own

own_hello : (event : Event) → is_own event ≡ true → is_asked_hello event ≡ true
own_hello events.Turn own = refl
own_hello events.Tick own = refl
own_hello events.Ask own = refl
own_hello events.CaughtUp own = refl
own_hello events.Opened own = own
own_hello events.End own = refl
own_hello events.ReadFault own = refl
own_hello events.WriteFault own = refl
own_hello (events.Bytes bytes) own = refl
own_hello (events.Copied table batch) own = own
own_hello (events.Nothing table) own = own
own_hello (events.Written known) own = own
own_hello (events.Settled table settled) own = own
own_hello (events.Refused table) own = own

own_open : (event : Event) → is_own event ≡ true → is_asked_open [] event ≡ true
own_open events.Turn own = refl
own_open events.Tick own = refl
own_open events.Ask own = refl
own_open events.CaughtUp own = refl
own_open events.Opened own = own
own_open events.End own = refl
own_open events.ReadFault own = refl
own_open events.WriteFault own = refl
own_open (events.Bytes bytes) own = refl
own_open (events.Copied table batch) own = own
own_open (events.Nothing table) own = own
own_open (events.Written known) own = own
own_open (events.Settled table settled) own = own
own_open (events.Refused table) own = own

only_memory : (asked : Bool) (error : SessionError) → asked ≡ true → IsWhy asked error → error ≡ refusals.Memory
only_memory true refusals.Memory is why = refl
only_memory true refusals.Ended is why = absurd why
only_memory true refusals.Unasked is why = absurd why
only_memory false error is why = absurd (false≢true is)

pub refused_then : (phase : Phase) (event : Event) (error : SessionError) → HasNothingDue phase → is_own event ≡ true → Refuses phase event error → (error ≡ refusals.Ended) ⊎ (error ≡ refusals.Memory)
refused_then phases.Ended event error none own refuses = inl refuses
refused_then (phases.New hello c) event error none own why = inr (only_memory (is_asked_new event) error (own_new event own) why)
refused_then (phases.Hello greeter bytes c) event error none own why = inr (only_memory (is_asked_hello event) error (own_hello event own) why)
refused_then (phases.Open c) event error none own why =
    inr (only_memory (is_asked_open c.due event) error (ap (λ due. is_asked_open due event) none ∙ own_open event own) why)
