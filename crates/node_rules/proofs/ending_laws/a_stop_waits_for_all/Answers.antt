use Rattle.node_rules.proofs.StopsWait.{stops_late}
use Rattle.node_rules.proofs.ending_laws.a_stop_waits_for_all.Goals as goal

pub returns : goal.returns
returns c = stops_late
