use Rattle.std.proofs.Common.{◌≡◌, ◌++◌}
use Rattle.std.specs.Prelude.{filter_map}
use Rattle.learner.specs.Intake.{ack_of}
use Rattle.learner.proofs.intake.Intake.acks.Given as goal

abbrev pub invariant-loop-id : goal.invariant-loop-id
invariant-loop-id l = l.acks.items ++ filter_map (ack_of l.fn.self) l.id-iterator ≡ filter_map (ack_of l.fn.self) l.fn.self.due
