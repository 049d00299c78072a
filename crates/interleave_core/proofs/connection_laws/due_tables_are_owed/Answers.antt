use Rattle.interleave_core.proofs.SoundConnections.{due_by_updates, owed_numbers}
use Rattle.interleave_core.proofs.connection_laws.due_tables_are_owed.Goals as goal

pub returns-clause-owed : goal.returns-clause-owed
returns-clause-owed c = owed_numbers

pub returns-clause-due : goal.returns-clause-due
returns-clause-due c = due_by_updates
