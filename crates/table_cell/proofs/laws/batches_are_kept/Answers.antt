use Rattle.table_cell.proofs.RunLaws.{runs_keep}
use Rattle.table_cell.proofs.laws.batches_are_kept.Goals as goal

pub returns : goal.returns
returns c = runs_keep
