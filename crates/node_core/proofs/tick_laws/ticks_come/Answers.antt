use Rattle.node_core.proofs.TickLaws.{comes_between, own_time, soon_due}
use Rattle.node_core.proofs.tick_laws.ticks_come.Goals as goal

pub returns-clause-between : goal.returns-clause-between
returns-clause-between c = comes_between

pub returns-clause-soon : goal.returns-clause-soon
returns-clause-soon c = soon_due

pub returns-clause-own : goal.returns-clause-own
returns-clause-own c = own_time
