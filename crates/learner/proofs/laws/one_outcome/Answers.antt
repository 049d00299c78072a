use Rattle.learner.proofs.OneOutcome.{learner_fed_once, intake_fed_once, intake_next_once}
use Rattle.learner.proofs.laws.one_outcome.Goals as goal

pub returns-clause-learner : goal.returns-clause-learner
returns-clause-learner c = learner_fed_once

pub returns-clause-feed : goal.returns-clause-feed
returns-clause-feed c = intake_fed_once

pub returns-clause-next : goal.returns-clause-next
returns-clause-next c = intake_next_once
