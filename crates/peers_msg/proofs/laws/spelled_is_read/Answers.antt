use Rattle.peers_msg.proofs.MessageRoundTrip.{message_again}
use Rattle.peers_msg.proofs.ReadingStays.{cut_is_not_whole}
use Rattle.peers_msg.proofs.laws.spelled_is_read.Goals as goal

pub returns-clause-whole : goal.returns-clause-whole
returns-clause-whole c = message_again

pub returns-clause-cut : goal.returns-clause-cut
returns-clause-cut c = cut_is_not_whole
