-- A session that stays refuses an event exactly for the cause for which it may not come.
use Rattle.std.proofs.Common.{◌≡◌, ◌≢◌, ℕ, Bool, true, false, List, Result, Ok, Err, IfOk, IfErr, refl, sym, ap, ◌∙◌}
use Rattle.std.proofs.lemmas.Bool.{false≢true}
use Rattle.session_core.specs.declared.action.Action.{Action}
use Rattle.session_core.specs.declared.error.SessionError.{SessionError}
use Rattle.session_core.specs.declared.error.SessionError.TheVariants as errors
use Rattle.session_core.specs.declared.event.Event.{Event}
use Rattle.session_core.specs.declared.event.Event.TheVariants as events
use Rattle.session_core.specs.Phases.{Phase}
use Rattle.session_core.specs.Phases as phases
use Rattle.session_core.specs.Sessions.{IsWhy, Refuses, is_asked}
use Rattle.session_core.specs.Standing.{StandingState, Stands}
use Rattle.session_core.proofs.StandingOnce.{asked_where_stands}

unasked_why : (asked : Bool) (e : SessionError) → e ≢ errors.Memory → IsWhy asked e → asked ≡ false
unasked_why true errors.Memory other why = absurd (other refl)
unasked_why true errors.Unasked other why = absurd why
unasked_why true errors.Ended other why = absurd why
unasked_why false e other why = refl

why_once : (asked : Bool) (e f : SessionError) → e ≢ errors.Memory → IsWhy asked e → IsWhy asked f → f ≡ e
why_once true errors.Memory f other why so = absurd (other refl)
why_once true errors.Unasked f other why so = absurd why
why_once true errors.Ended f other why so = absurd why
why_once false errors.Unasked errors.Unasked other why so = refl
why_once false errors.Memory f other why so = absurd why
why_once false errors.Ended f other why so = absurd why
why_once false errors.Unasked errors.Memory other why so = absurd so
why_once false errors.Unasked errors.Ended other why so = absurd so

unasked_at : (phase : Phase) (event : Event) (e : SessionError) → e ≢ errors.Memory → Refuses phase event e → is_asked phase event ≡ false
unasked_at phases.Ended event e other refuses = refl
unasked_at (phases.New hello c) event e other refuses = unasked_why (is_asked (phases.New hello c) event) e other refuses
unasked_at (phases.Hello greeter bytes c) event e other refuses = unasked_why (is_asked (phases.Hello greeter bytes c) event) e other refuses
unasked_at (phases.Open c) event e other refuses = unasked_why (is_asked (phases.Open c) event) e other refuses

refused_once : (phase : Phase) (event : Event) (e f : SessionError) → e ≢ errors.Memory → Refuses phase event e → Refuses phase event f → f ≡ e
refused_once phases.Ended event e f other refuses so = so ∙ sym refuses
refused_once (phases.New hello c) event e f other refuses so = why_once (is_asked (phases.New hello c) event) e f other refuses so
refused_once (phases.Hello greeter bytes c) event e f other refuses so = why_once (is_asked (phases.Hello greeter bytes c) event) e f other refuses so
refused_once (phases.Open c) event e f other refuses so = why_once (is_asked (phases.Open c) event) e f other refuses so

-- a step or a refusal: if there is a cause other than memory, it is that refusal
pub step_refuses : {A : Type 0} (items : A → List Action) (s end : StandingState) (now : ℕ) (event : Event) (result : Result A SessionError) (e : SessionError) → e ≢ errors.Memory → Refuses s.session.phase event e
    → IfOk result (λ acts. Stands s now event (items acts) end) → IfErr result (λ f. Refuses s.session.phase event f) → result ≡ Err e
step_refuses items s end now event (Ok acts) e other refuses stands refused =
    absurd (false≢true (sym (unasked_at s.session.phase event e other refuses) ∙ asked_where_stands s end now event (items acts) stands))
step_refuses items s end now event (Err f) e other refuses stands refused = ap (λ (x : SessionError). Err x) (refused_once s.session.phase event e f other refuses refused)
