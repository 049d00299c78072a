use Rattle.table_types.proofs.BatchIsFaultless.{batch_of_one}
use Rattle.table_types.proofs.laws.a_batch_of_one_table.Goals as goal

pub returns : goal.returns
returns c = batch_of_one
