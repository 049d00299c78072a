use Rattle.node_log.proofs.Spacing.{apart, counted}
use Rattle.node_log.proofs.laws.at_most_five_a_second.Goals as goal

pub returns-clause-apart : goal.returns-clause-apart
returns-clause-apart c = apart

pub returns-clause-counted : goal.returns-clause-counted
returns-clause-counted c = counted
