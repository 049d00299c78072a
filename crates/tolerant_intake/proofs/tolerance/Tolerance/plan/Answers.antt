use Rattle.std.proofs.Common.{Ok, None, refl}
use Rattle.learner.specs.Front.{Looks}
use Rattle.tolerant_intake.proofs.PlansMade.{IsUnloosed, waits_planned}
use Rattle.tolerant_intake.proofs.tolerance.Tolerance.plan.Goals as goal

pub returns-in-Ok-None : goal.returns-in-Ok-None
returns-in-Ok-None c =
    let l = c.args.self.now in
    let t = c.args.intake.now in
    let none : IsUnloosed l t = c.in_ok-plan.ensures.none (rw c.in_default.is refl) in
    let looks : Looks t (Ok None) = rw c.in-Ok-None.field-0-is at c.in-Ok-None.ensures.looks in
    waits_planned l t none looks
