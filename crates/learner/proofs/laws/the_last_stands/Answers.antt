use Rattle.learner.proofs.PutChangesOneRow.{last_stands, others_stay_all}
use Rattle.learner.proofs.laws.the_last_stands.Goals as goal

pub returns-clause-last : goal.returns-clause-last
returns-clause-last c = last_stands

pub returns-clause-others : goal.returns-clause-others
returns-clause-others c = others_stay_all
