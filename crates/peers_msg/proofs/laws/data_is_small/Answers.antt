use Rattle.peers_msg.proofs.DataLimits.{update_small, definition_small, row_small}
use Rattle.peers_msg.proofs.laws.data_is_small.Goals as goal

pub returns-clause-updates : goal.returns-clause-updates
returns-clause-updates c = update_small

pub returns-clause-definitions : goal.returns-clause-definitions
returns-clause-definitions c = definition_small

pub returns-clause-rows : goal.returns-clause-rows
returns-clause-rows c = row_small
