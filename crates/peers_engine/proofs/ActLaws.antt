-- Actions performed one after another.
use Rattle.std.proofs.Common.{◌≡◌, ℕ, Bool, true, false, List, [], ◌∷◌, ◌++◌, Option, Some, refl, sym, ap, ◌∙◌, subst, append_assoc}
use Rattle.std.proofs.lemmas.Bool.{false≢true}
use Rattle.std.proofs.lemmas.List.{append-nil}
use Rattle.session_core.specs.declared.action.Action.{Action}
use Rattle.session_core.specs.declared.event.Event.{Event}
use Rattle.session_core.specs.Phases.{Phase}
use Rattle.session_core.specs.Phases as phases
use Rattle.session_core.specs.Courses.{state_of_course}
use Rattle.session_core.specs.Keeping.{KeptSession, Steps}
use Rattle.session_core.specs.Sessions.{is_asked, state_of}
use Rattle.session_core.specs.Hearing.{asked_in}
use Rattle.session_core.proofs.KeepingLaws.{step_asked}
use Rattle.table_shards.specs.Receipts.{SeatState}
use Rattle.peers_engine.specs.Acting.{Acts, DoneBy, IsGiven, IsGivenIn, Worker, stands}

pub acts_on : (s mid e : Worker) (before after : List Action) (answers more : List (Event × List Action)) (out rest : List ℕ)
    → Acts s before answers out mid → Acts mid after more rest e → Acts s (before ++ after) (answers ++ more) (out ++ rest) e
acts_on s mid e [] after answers more out rest (none, nothing, same) second =
    subst (λ (t : List (Event × List Action)). Acts s after (t ++ more) (out ++ rest) e) (sym none)
    (subst (λ (o : List ℕ). Acts s after more (o ++ rest) e) (sym nothing)
    (subst (λ (x : Worker). Acts x after more rest e) same second))
acts_on s mid e (act ∷ acts) after answers more out rest (bytes, then, answer, first, steps, seat, next, done, gives, acted, is, written) second = (
  bytes,
  then ++ rest,
  answer,
  first,
  steps ++ more,
  seat,
  next,
  done,
  gives,
  acts_on (stands s next seat) mid e acts after steps more then rest acted second,
  rw is (append_assoc first steps more),
  rw written (append_assoc bytes then rest),
)

-- one action, and its answer received
pub one_act : (s : Worker) (e : KeptSession) (seat : SeatState) (act : Action) (answer : Option Event) (steps : List (Event × List Action)) (bytes : List ℕ)
    → DoneBy s act bytes answer seat → IsGiven s.session s.now answer steps e → Acts s (act ∷ []) steps bytes (stands s e seat)
one_act s e seat act answer steps bytes done answers =
    (bytes, [], answer, steps, [], seat, e, done, answers, (refl, refl, refl), sym (append-nil steps), sym (append-nil bytes))

-- ---- an answer that is received

given_open : (teaching : Bool) (s e : KeptSession) (now : ℕ) (event : Event) (acts : List Action) → Steps s now event acts e → IsGivenIn (state_of_course teaching) s now event ((event, acts) ∷ []) e
given_open true s e now event acts taken = (acts, taken, refl)
given_open false s e now event acts taken = (acts, taken, refl)

given_in : (phase : Phase) (s e : KeptSession) (now : ℕ) (event : Event) (acts : List Action) → is_asked phase event ≡ true → Steps s now event acts e → IsGivenIn (state_of phase) s now event ((event, acts) ∷ []) e
given_in (phases.New hello c) s e now event acts asks taken = (acts, taken, refl)
given_in (phases.Hello greeter bytes c) s e now event acts asks taken = (acts, taken, refl)
given_in (phases.Open c) s e now event acts asks taken = given_open c.teaching s e now event acts taken
given_in phases.Ended s e now event acts asks taken = absurd (false≢true asks)

pub given_some : (s e : KeptSession) (now : ℕ) (answer : Option Event) (event : Event) (acts : List Action) → answer ≡ Some event → Steps s now event acts e → IsGiven s now answer ((event, acts) ∷ []) e
given_some s e now answer event acts is taken =
    subst (λ (x : Option Event). IsGiven s now x ((event, acts) ∷ []) e) (sym is) (given_in s.session.phase s e now event acts (step_asked s.manner s e now event acts taken.0) taken)

-- an answer is received
pub given_steps : (s e : KeptSession) (now : ℕ) (answer : Option Event) (event : Event) (old new : List Action) → answer ≡ Some event
    → ((acts : List Action) × Steps s now event acts e × (new ≡ old ++ acts))
    → (steps : List (Event × List Action)) × IsGiven s now answer steps e × (new ≡ old ++ asked_in steps)
given_steps s e now answer event old new is (acts, taken, kept) =
    ((event, acts) ∷ [], given_some s e now answer event acts is taken, kept ∙ ap (λ (x : List Action). old ++ x) (sym (append-nil acts)))
