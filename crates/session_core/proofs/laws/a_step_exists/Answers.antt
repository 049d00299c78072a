use Rattle.session_core.proofs.EitherRuns.{some_steps, some_steps_after, some_tick_steps, steps_hold}
use Rattle.session_core.proofs.laws.a_step_exists.Goals as goal

pub returns-clause-run : goal.returns-clause-run
returns-clause-run c = some_steps_after

pub returns-clause-step : goal.returns-clause-step
returns-clause-step c = some_steps

pub returns-clause-tick : goal.returns-clause-tick
returns-clause-tick c = some_tick_steps

pub returns-clause-kept : goal.returns-clause-kept
returns-clause-kept c = steps_hold
