use Rattle.table_types.proofs.BatchIsFaultless.{batch_without_fault, batch_has_no_fault}
use Rattle.table_types.proofs.laws.a_batch_has_no_fault.Goals as goal

pub returns-clause-only : goal.returns-clause-only
returns-clause-only c = batch_without_fault

pub returns-clause-exactly : goal.returns-clause-exactly
returns-clause-exactly c = batch_has_no_fault
