use Rattle.session_core.proofs.EitherRuns.{unasked}
use Rattle.session_core.proofs.laws.unasked_is_no_step.Goals as goal

pub returns : goal.returns
returns c = unasked
