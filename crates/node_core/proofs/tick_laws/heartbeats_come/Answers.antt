use Rattle.node_core.proofs.TickLaws.{overdue_stays}
use Rattle.node_core.proofs.tick_laws.heartbeats_come.Goals as goal

pub returns-clause-overdue : goal.returns-clause-overdue
returns-clause-overdue c = overdue_stays
