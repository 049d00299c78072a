use Rattle.learner.proofs.EachPieceGivesItsOwn.{on_way}
use Rattle.learner.proofs.StaysOnItsWay.{at_the_end, fed}
use Rattle.learner.proofs.laws.a_learner_stays_on_its_way.Goals as goal

pub returns-clause-learned : goal.returns-clause-learned
returns-clause-learned c = on_way

pub returns-clause-fed : goal.returns-clause-fed
returns-clause-fed c = fed

pub returns-clause-ended : goal.returns-clause-ended
returns-clause-ended c = at_the_end
