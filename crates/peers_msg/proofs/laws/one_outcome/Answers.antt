use Rattle.peers_msg.proofs.OneOutcome.{fed_once, next_once}
use Rattle.peers_msg.proofs.laws.one_outcome.Goals as goal

pub returns-clause-feed : goal.returns-clause-feed
returns-clause-feed c = fed_once

pub returns-clause-next : goal.returns-clause-next
returns-clause-next c = next_once
