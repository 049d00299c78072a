use Rattle.table_cell.proofs.SomeStep.{some_step}
use Rattle.table_cell.proofs.laws.a_step_exists.Goals as goal

pub returns : goal.returns
returns c = some_step
