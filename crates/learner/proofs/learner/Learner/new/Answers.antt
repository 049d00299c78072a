use Rattle.std.proofs.Common.{arith}
use Rattle.learner.proofs.LegalStreamIsTaught.{waits_at_end}
use Rattle.learner.proofs.RoomForMessages.{no_bytes_good}
use Rattle.learner.proofs.learner.Learner.new.Goals as goal

pub invariant_of-result : goal.invariant_of-result
invariant_of-result c =
    (λ _. rw c.in_ok-with_capacity.ensures.items (waits_at_end c.in_ok-new.field-0.intake.state.received), rw c.in_ok-with_capacity.ensures.items no_bytes_good, omega (arith, c.in_ok-with_capacity.ensures.capacity))
