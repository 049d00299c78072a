use Rattle.std.proofs.Common.{Err}
use Rattle.learner.specs.declared.fault.Fault.TheVariants as faults
use Rattle.learner.specs.Front.{Looks}
use Rattle.tolerant_intake.proofs.PlansMade.{memory_stands, closed_stands, unnumbered_stands}
use Rattle.tolerant_intake.proofs.tolerance.Tolerance.plan_fault.Goals as goal

pub returns-in-NoNumber : goal.returns-in-NoNumber
returns-in-NoNumber c =
    let looks : Looks c.args.intake.now (Err faults.NoNumber) = rw c.in-NoNumber.is at c.requires.looks in
    unnumbered_stands c.args.self.now c.args.intake.now c.requires.strict looks

pub returns-in-Memory : goal.returns-in-Memory
returns-in-Memory c =
    let looks : Looks c.args.intake.now (Err faults.Memory) = rw c.in-Memory.is at c.requires.looks in
    memory_stands c.args.self.now c.args.intake.now c.requires.strict looks

pub returns-in-Closed : goal.returns-in-Closed
returns-in-Closed c =
    let looks : Looks c.args.intake.now (Err faults.Closed) = rw c.in-Closed.is at c.requires.looks in
    closed_stands c.args.self.now c.args.intake.now looks
