use Rattle.node_core.proofs.Waiting.{nobody_next, waits_on}
use Rattle.node_core.proofs.asking_laws.one_at_a_time.Goals as goal

pub returns-clause-next : goal.returns-clause-next
returns-clause-next c = nobody_next

pub returns-clause-waits : goal.returns-clause-waits
returns-clause-waits c = waits_on
