use Rattle.std.proofs.Common.{◌≡◌, Option, Err, Ok, Some, ap, ◌∙◌, subst}
use Rattle.std.proofs.lemmas.Result.{err_from_is_err_and}
use Rattle.learner.specs.declared.taken.Taken.{Taken}
use Rattle.learner.specs.declared.taken.Taken.TheVariants as taken
use Rattle.tolerant_intake.specs.Reading.{Reads}
use Rattle.session_core.specs.Courses.{Course}
use Rattle.session_core.proofs.ReadersGoOn.{passed_same}
use Rattle.session_core.proofs.ReceivingLemmas.{halts_at}
use Rattle.session_core.proofs.course.Course.next.Goals.{in-Some-Failed, in_default}
use Rattle.session_core.proofs.course.Course.next.Goals as goal

pub returns-in_err-found-clause-halted : goal.returns-in_err-found-clause-halted
returns-in_err-found-clause-halted c =
    let p = err_from_is_err_and c.from_residual.result c.from_residual.ensures.1 in
    let stops = subst (λ (x : Course). Reads x.tolerance x.intake (Err c.in_err-found.field-0.0) c.next.new.self.intake c.next.new.self.tolerance) c.self.view_is c.in_err-found.ensures.next in
    rw (p.1, p.2) (halts_at c.args.self.now c.in_err-found.field-0.0 c.next.new.self.intake c.next.new.self.tolerance stops)

pub returns-in_err-found-clause-passed : goal.returns-in_err-found-clause-passed
returns-in_err-found-clause-passed c =
    let p = err_from_is_err_and c.from_residual.result c.from_residual.ensures.1 in
    let stops = subst (λ (x : Course). Reads x.tolerance x.intake (Err c.in_err-found.field-0.0) c.next.new.self.intake c.next.new.self.tolerance) c.self.view_is c.in_err-found.ensures.next in
    rw p.1 (passed_same c.args.self.now.tolerance c.args.self.now.intake c.next.new.self.intake (Err c.in_err-found.field-0.0) c.next.new.self.tolerance (λ same. cc) stops)

pub returns-clause-halted : goal.returns-clause-halted
returns-clause-halted c =
    let gives = subst (λ (x : Course). Reads x.tolerance x.intake (Ok c.in_ok-found.found) c.next.new.self.intake c.next.new.self.tolerance) c.self.view_is c.in_ok-found.ensures.next in
    elim c.match-branch-2.branch [
      | in-Some-Failed w ↦
          (let failed : c.in_ok-found.found ≡ Some (taken.Failed w.in-Some-Failed.field-0-0) = w.in-Some-Failed.is ∙ ap (λ (t : Taken). Some t) w.in-Some-Failed.field-0-is in
          rw w.result-is (
            w.in-Some-Failed.field-0-0,
            c.next.new.self.intake,
            c.next.new.self.tolerance,
            subst (λ (found : Option Taken). Reads c.args.self.now.tolerance c.args.self.now.intake (Ok found) c.next.new.self.intake c.next.new.self.tolerance) failed gives,
          ))
      | in_default w ↦ rw w.result-is tt
    ]
