use Rattle.node_core.proofs.Rounds.{goes_on, rounds_fit}
use Rattle.node_core.proofs.asking_laws.a_node_comes_to_be_up_to_date.Goals as goal

pub returns-clause-rounds : goal.returns-clause-rounds
returns-clause-rounds c = rounds_fit

pub returns-clause-goes_on : goal.returns-clause-goes_on
returns-clause-goes_on c = goes_on
