use Rattle.peers_encint.proofs.OneSpelling.{longer, within, table}
use Rattle.peers_encint.proofs.laws.lengths.Goals as goal

pub returns-clause-longer : goal.returns-clause-longer
returns-clause-longer c = longer

pub returns-clause-within : goal.returns-clause-within
returns-clause-within c = within

pub returns-clause-table : goal.returns-clause-table
returns-clause-table c = table
