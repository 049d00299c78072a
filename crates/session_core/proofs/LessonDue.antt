-- The end of a lesson, which stays due while an acknowledgement is passed on.
use Rattle.std.proofs.Common.{◌≡◌, ℕ, Bool, true, false, List, [], ◌∷◌, ◌++◌, sym, subst, ◌∙◌}
use Rattle.std.proofs.lemmas.Bool.{false≢true}
use Rattle.known_state.specs.Known.{KnownState}
use Rattle.session_core.specs.declared.due.Due.{Due}
use Rattle.session_core.specs.declared.due.Due.TheVariants as dues
use Rattle.session_core.specs.declared.error.SessionError.{SessionError}
use Rattle.session_core.specs.declared.event.Event.TheVariants as events
use Rattle.session_core.specs.declared.phase.Stage.{Stage}
use Rattle.session_core.specs.declared.phase.Stage.TheVariants as stages
use Rattle.session_core.specs.Courses.{Course, acknowledged, is_due}
use Rattle.session_core.specs.Sessions.{Refuses, IsWhy, phase_of}

first_stays : (ds more : List Due) (d : Due) → is_due d ds ≡ true → is_due d (ds ++ more) ≡ true
first_stays [] more d due = absurd (false≢true due)
first_stays (first ∷ ds) more d due = due

pub lesson_stays : (is_out : Bool) (c : Course) (table number : ℕ) → is_due dues.Teach c.due ≡ true → is_due dues.Teach (acknowledged is_out c table number).1.due ≡ true
lesson_stays true c table number due = first_stays c.due (dues.Ack table ∷ []) dues.Teach due
lesson_stays false c table number due = due

-- why it is refused then is why it is refused before
pub written_refused : (stage then : Stage) (c mid : Course) (known : KnownState) (e : SessionError) → stage ≡ stages.Open → then ≡ stage
    → is_due dues.Teach c.due ≡ true → is_due dues.Teach mid.due ≡ true → Refuses (phase_of then mid) (events.Written known) e → Refuses (phase_of stage c) (events.Written known) e
written_refused stage then c mid known e opened same due still refused =
    let at : IsWhy (is_due dues.Teach mid.due) e = subst (λ (s : Stage). Refuses (phase_of s mid) (events.Written known) e) (same ∙ opened) refused in
    let why : IsWhy true e = subst (λ (b : Bool). IsWhy b e) still at in
    subst (λ (s : Stage). Refuses (phase_of s c) (events.Written known) e) (sym opened) (subst (λ (b : Bool). IsWhy b e) (sym due) why)
