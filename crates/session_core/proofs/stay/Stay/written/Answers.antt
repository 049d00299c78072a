use Rattle.std.proofs.Common.{◌≡◌, true, sym, ap, subst, ◌∙◌}
use Rattle.std.proofs.lemmas.Result.{err_from_is_err_and}
use Rattle.session_core.specs.declared.due.Due.TheVariants as dues
use Rattle.session_core.specs.declared.machine.Machine.{Machine}
use Rattle.session_core.specs.Courses.{Course, is_due}
use Rattle.session_core.proofs.LessonDue.{lesson_stays, written_refused}
use Rattle.session_core.proofs.stay.Stay.written.Goals.{in-Some+in_ok-acknowledge, in_default}
use Rattle.session_core.proofs.stay.Stay.written.Goals as goal

pub returns-in_err-hand_on-clause-refused : goal.returns-in_err-hand_on-clause-refused
returns-in_err-hand_on-clause-refused c =
    let p = err_from_is_err_and c.from_residual-in_err-hand_on.result c.from_residual-in_err-hand_on.ensures.1 in
    let lesson = c.in_ok-check_lesson.ensures in
    rw (p.1, p.2) (elim c.match-ack.branch [
      | in-Some+in_ok-acknowledge w ↦
          (let still : is_due dues.Teach c.match-ack.machine.course.due ≡ true =
          subst (λ (x : Course). is_due dues.Teach x.due ≡ true) (sym (ap (λ (m : Machine). m.course) w.machine-is ∙ w.in_ok-acknowledge.ensures.course)) (lesson_stays _ _ _ _ lesson.due) in
          written_refused _ _ _ _ _ _ lesson.stage (ap (λ (m : Machine). m.stage) w.machine-is) lesson.due still c.in_err-hand_on.ensures.refused)
      | in_default w ↦
          (let still : is_due dues.Teach c.match-ack.machine.course.due ≡ true =
          subst (λ (x : Course). is_due dues.Teach x.due ≡ true) (sym (ap (λ (m : Machine). m.course) w.machine-is)) lesson.due in
          written_refused _ _ _ _ _ _ lesson.stage (ap (λ (m : Machine). m.stage) w.machine-is) lesson.due still c.in_err-hand_on.ensures.refused)
    ])
