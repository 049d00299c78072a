use Rattle.learner.proofs.LegalStreamIsTaught.{taught, taught_in_pieces}
use Rattle.learner.proofs.NoFaultOnTheWay.{stream_faultless}
use Rattle.learner.proofs.laws.a_legal_stream.Goals as goal

pub returns-clause-whole : goal.returns-clause-whole
returns-clause-whole c = taught

pub returns-clause-pieces : goal.returns-clause-pieces
returns-clause-pieces c = taught_in_pieces

pub returns-clause-faultless : goal.returns-clause-faultless
returns-clause-faultless c = stream_faultless
