use Rattle.peers_encint.proofs.OneSpelling.{spelled, one_spelling, apart, bytes}
use Rattle.peers_encint.proofs.laws.one_spelling.Goals as goal

pub returns-clause-spelled : goal.returns-clause-spelled
returns-clause-spelled c = spelled

pub returns-clause-same : goal.returns-clause-same
returns-clause-same c = one_spelling

pub returns-clause-apart : goal.returns-clause-apart
returns-clause-apart c = apart

pub returns-clause-bytes : goal.returns-clause-bytes
returns-clause-bytes c = bytes
