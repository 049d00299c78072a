use Rattle.learner.proofs.TakingOneMessage.{shown_taken}
use Rattle.learner.proofs.intake.Intake.next.Goals as goal

pub returns-in_ok-pass-in-Ok-Some-clause-next : goal.returns-in_ok-pass-in-Ok-Some-clause-next
returns-in_ok-pass-in-Ok-Some-clause-next c =
    let looks = rw c.in-Ok-Some.field-0-is at c.in-Ok-Some.ensures.looks in
    rw c.in_ok-taken-in-Ok-Some.ensures (shown_taken c.args.self.now c.pass.new.self looks.0 c.in-Ok-Some.advance c.in-Ok-Some.taken looks.1 looks.2 looks.3 c.in_ok-pass-in-Ok-Some.ensures.passed)
