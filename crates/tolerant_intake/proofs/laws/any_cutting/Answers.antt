use Rattle.tolerant_intake.proofs.ReadHoweverCut.{are_read_more, two_read, same_read}
use Rattle.tolerant_intake.proofs.laws.any_cutting.Goals as goal

pub returns-clause-more : goal.returns-clause-more
returns-clause-more c = are_read_more

pub returns-clause-two : goal.returns-clause-two
returns-clause-two c = two_read

pub returns-clause-same : goal.returns-clause-same
returns-clause-same c = same_read
