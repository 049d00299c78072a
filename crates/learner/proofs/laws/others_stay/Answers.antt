use Rattle.learner.proofs.PutChangesOneRow.{here, other_keys, other_tables}
use Rattle.learner.proofs.laws.others_stay.Goals as goal

pub returns-clause-here : goal.returns-clause-here
returns-clause-here c = here

pub returns-clause-keys : goal.returns-clause-keys
returns-clause-keys c = other_keys

pub returns-clause-tables : goal.returns-clause-tables
returns-clause-tables c = other_tables
