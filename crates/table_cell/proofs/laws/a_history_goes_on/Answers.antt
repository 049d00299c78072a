use Rattle.table_cell.proofs.RunLaws.{made_longer}
use Rattle.table_cell.proofs.laws.a_history_goes_on.Goals as goal

pub returns : goal.returns
returns c = made_longer
