use Rattle.peers_msg.proofs.StreamRoundTrip.{read_spelled, spelled_read}
use Rattle.peers_msg.proofs.laws.lists_are_read.Goals as goal

pub returns-clause-spelled : goal.returns-clause-spelled
returns-clause-spelled c = read_spelled

pub returns-clause-read : goal.returns-clause-read
returns-clause-read c = spelled_read
