use Rattle.session_core.proofs.EitherRuns.{step_once, step_whenever}
use Rattle.session_core.proofs.laws.a_step_is_unique.Goals as goal

pub returns-clause-same : goal.returns-clause-same
returns-clause-same c = step_once

pub returns-clause-whenever : goal.returns-clause-whenever
returns-clause-whenever c = step_whenever
