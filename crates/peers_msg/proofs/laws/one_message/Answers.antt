use Rattle.peers_msg.proofs.UniqueDecoding.{one_message, apart}
use Rattle.peers_msg.proofs.laws.one_message.Goals as goal

pub returns-clause-same : goal.returns-clause-same
returns-clause-same c = one_message

pub returns-clause-apart : goal.returns-clause-apart
returns-clause-apart c = apart
