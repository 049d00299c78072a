use Rattle.table_cell.proofs.BatchLaws.{periods}
use Rattle.table_cell.proofs.copying.update_of.Goals as goal

pub values_of-requires-clause-periods : goal.values_of-requires-clause-periods
values_of-requires-clause-periods c = rw c.types.ensures (periods c.args.definition.now c.requires.defined)
