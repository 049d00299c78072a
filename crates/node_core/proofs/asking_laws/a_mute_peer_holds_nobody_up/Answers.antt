use Rattle.node_core.proofs.Waiting.{mute_ends}
use Rattle.node_core.proofs.asking_laws.a_mute_peer_holds_nobody_up.Goals as goal

pub returns : goal.returns
returns c = mute_ends
