use Rattle.node_rules.proofs.DownSince.{down_since}
use Rattle.node_rules.proofs.peer_record_laws.a_peer_stays_down_since.Goals as goal

pub returns : goal.returns
returns c = down_since
