use Rattle.peers_msg.proofs.UniqueDecoding.{no_prefix}
use Rattle.peers_msg.proofs.laws.no_prefix.Goals as goal

pub returns : goal.returns
returns c = no_prefix
