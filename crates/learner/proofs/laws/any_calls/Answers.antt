use Rattle.learner.proofs.SameInAnyOrderOfCalls.{same_called}
use Rattle.learner.proofs.laws.any_calls.Goals as goal

pub returns : goal.returns
returns c = same_called
