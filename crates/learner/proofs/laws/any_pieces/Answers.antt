use Rattle.learner.proofs.SameHoweverCut.{two, whole, same_fed}
use Rattle.learner.proofs.laws.any_pieces.Goals as goal

pub returns-clause-two : goal.returns-clause-two
returns-clause-two c = two

pub returns-clause-whole : goal.returns-clause-whole
returns-clause-whole c = λ now l e a pieces count. whole now pieces l e a count

pub returns-clause-same : goal.returns-clause-same
returns-clause-same c = same_fed
