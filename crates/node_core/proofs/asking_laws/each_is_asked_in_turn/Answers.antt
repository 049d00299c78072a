use Rattle.node_core.proofs.Turns.{again, in_turn}
use Rattle.node_core.proofs.asking_laws.each_is_asked_in_turn.Goals as goal

pub returns-clause-again : goal.returns-clause-again
returns-clause-again c = again

pub returns-clause-turns : goal.returns-clause-turns
returns-clause-turns c = in_turn
