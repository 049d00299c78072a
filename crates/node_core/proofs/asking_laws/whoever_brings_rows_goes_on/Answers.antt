use Rattle.node_core.proofs.Rounds.{not_asked_meanwhile}
use Rattle.node_core.proofs.Waiting.{rows_keep_the_wait}
use Rattle.node_core.proofs.asking_laws.whoever_brings_rows_goes_on.Goals as goal

pub returns-clause-waits : goal.returns-clause-waits
returns-clause-waits c = rows_keep_the_wait

pub returns-clause-asks : goal.returns-clause-asks
returns-clause-asks c = not_asked_meanwhile
