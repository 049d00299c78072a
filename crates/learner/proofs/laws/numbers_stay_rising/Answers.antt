use Rattle.learner.proofs.KnownLessons.{fed_rise}
use Rattle.learner.proofs.laws.numbers_stay_rising.Goals as goal

pub returns-clause-fed : goal.returns-clause-fed
returns-clause-fed c = fed_rise
