use Rattle.table_cell.proofs.StepLaws.{run_longer}
use Rattle.table_cell.proofs.laws.a_run_goes_on.Goals as goal

pub returns : goal.returns
returns c = run_longer
