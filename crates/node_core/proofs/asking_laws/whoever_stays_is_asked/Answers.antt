use Rattle.node_core.proofs.Seconds.{asked_in_time, finished_then}
use Rattle.node_core.proofs.asking_laws.whoever_stays_is_asked.Goals as goal

pub returns-clause-asked : goal.returns-clause-asked
returns-clause-asked c = asked_in_time

pub returns-clause-finishes : goal.returns-clause-finishes
returns-clause-finishes c = finished_then
