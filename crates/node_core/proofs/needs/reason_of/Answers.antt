use Rattle.node_core.proofs.ReasonLaws.{found, missing}
use Rattle.node_core.proofs.needs.reason_of.Goals as goal

pub returns-in-Some : goal.returns-in-Some
returns-in-Some c = found c.args.printed.now c.in-Some.reason.now _ c.in-Some.ensures.cases

pub returns-in-None : goal.returns-in-None
returns-in-None c = missing c.args.printed.now c.in-None.ensures.cases
