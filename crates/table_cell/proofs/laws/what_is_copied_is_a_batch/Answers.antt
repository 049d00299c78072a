use Rattle.table_cell.proofs.BatchLaws.{copied_batch}
use Rattle.table_cell.proofs.laws.what_is_copied_is_a_batch.Goals as goal

pub returns : goal.returns
returns c = λ s session limit now kind. copied_batch s session kind limit now
