use Rattle.node_core.proofs.Waiting.{wait_ends}
use Rattle.node_core.proofs.asking_laws.every_wait_ends.Goals as goal

pub returns : goal.returns
returns c = wait_ends
