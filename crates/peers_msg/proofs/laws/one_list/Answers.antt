use Rattle.peers_msg.proofs.UniqueDecoding.{one_list}
use Rattle.peers_msg.proofs.laws.one_list.Goals as goal

pub returns : goal.returns
returns c = one_list
