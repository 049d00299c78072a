use Rattle.table_cell.proofs.OneStep.{one_step, one_run}
use Rattle.table_cell.proofs.laws.a_step_is_unique.Goals as goal

pub returns-clause-step : goal.returns-clause-step
returns-clause-step c = one_step

pub returns-clause-run : goal.returns-clause-run
returns-clause-run c = one_run
