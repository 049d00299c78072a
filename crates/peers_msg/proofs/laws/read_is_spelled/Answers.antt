use Rattle.peers_msg.proofs.MessageCanonical.{message_takes}
use Rattle.peers_msg.proofs.laws.read_is_spelled.Goals as goal

pub returns : goal.returns
returns c = message_takes
