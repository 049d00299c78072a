use Rattle.peers_hello.proofs.MoreBytes.{accepted_stays, answer_stays, status_stays}
use Rattle.peers_hello.proofs.laws.what_follows_decides_nothing.Goals as goal

pub returns-clause-status : goal.returns-clause-status
returns-clause-status c = status_stays

pub returns-clause-hello : goal.returns-clause-hello
returns-clause-hello c = answer_stays

pub returns-clause-accepted : goal.returns-clause-accepted
returns-clause-accepted c = accepted_stays
