use Rattle.peers_encint.proofs.ReadAsSpelled.{again, takes, stays}
use Rattle.peers_encint.proofs.laws.reading_of_spellings.Goals as goal

pub returns-clause-again : goal.returns-clause-again
returns-clause-again c = again

pub returns-clause-takes : goal.returns-clause-takes
returns-clause-takes c = takes

pub returns-clause-more : goal.returns-clause-more
returns-clause-more c = stays
