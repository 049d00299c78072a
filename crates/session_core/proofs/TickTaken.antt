-- A tick is taken.
use Rattle.std.proofs.Common.{◌≡◌, ℕ, Bool, true, false, List, [], ◌∷◌, Result, Ok, Err, IfOk, OnOk, refl, sym, ap, subst}
use Rattle.session_core.specs.declared.action.Action.{Action}
use Rattle.session_core.specs.declared.action.Action.TheVariants as actions
use Rattle.session_core.specs.declared.error.SessionError.{SessionError}
use Rattle.session_core.specs.declared.event.Event.TheVariants as events
use Rattle.session_core.specs.declared.machine.Machine.{Machine}
use Rattle.session_core.specs.declared.phase.Stage.TheVariants as stages
use Rattle.session_core.specs.declared.stay.Stay.{Stay}
use Rattle.session_core.specs.Sessions.{is_asked, seen}
use Rattle.session_core.specs.Paces.{has_passed, silence_time}
use Rattle.session_core.specs.Standing.{StandingState, TakesTick, TicksAs, stood}

-- nothing came for long: the session closes
pub silent_takes : {A : Type 0} (items : A → List Action) (result : Result A SessionError) (m n : Machine) (t : Stay) (now : ℕ) → is_asked (seen m).phase events.Tick ≡ true → has_passed silence_time t.pace.heard now ≡ true
    → IfOk result (λ acts. items acts ≡ actions.Close ∷ []) → OnOk result (n ≡ record m { stage = stages.Ended }) → IfOk result (λ acts. TakesTick (stood m t) now (items acts) (stood n t))
silent_takes items (Ok acts) m n t now asked is closes ends =
    (asked, subst (λ (b : Bool). TicksAs b (seen m).phase (stood m t) now (items acts) (stood n t)) (sym is) ([], items acts, (refl, closes, ap seen ends, refl), refl))
silent_takes items (Err e) m n t now asked is closes ends = closes

pub heard_takes : {A : Type 0} (items : A → List Action) (result : Result A SessionError) (s e : StandingState) (now : ℕ) → is_asked s.session.phase events.Tick ≡ true → has_passed silence_time s.pace.heard now ≡ false
    → IfOk result (λ acts. TicksAs false s.session.phase s now (items acts) e) → IfOk result (λ acts. TakesTick s now (items acts) e)
heard_takes items (Ok acts) s e now asked is ticks = (asked, subst (λ (b : Bool). TicksAs b s.session.phase s now (items acts) e) (sym is) ticks)
heard_takes items (Err f) s e now asked is ticks = ticks
