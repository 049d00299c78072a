use Rattle.peers_msg.proofs.ReadingStays.{message_stays}
use Rattle.peers_msg.proofs.laws.reading_stays.Goals as goal

pub returns : goal.returns
returns c = message_stays
