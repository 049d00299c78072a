use Rattle.peers_msg.proofs.ReceivedTablesRise.{distinct-received, distinct-resumed, distinct-own}
use Rattle.peers_msg.proofs.laws.tables_stay_distinct.Goals as goal

pub returns-clause-step : goal.returns-clause-step
returns-clause-step c = distinct-received

pub returns-clause-resumed : goal.returns-clause-resumed
returns-clause-resumed c = distinct-resumed

pub returns-clause-own : goal.returns-clause-own
returns-clause-own c = distinct-own
