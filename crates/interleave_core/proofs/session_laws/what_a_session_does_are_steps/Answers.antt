use Rattle.interleave_core.proofs.SessionSteps.{acknowledged_as, copied_as, learned_as, reopened_as, taught_as}
use Rattle.interleave_core.proofs.session_laws.what_a_session_does_are_steps.Goals as goal

pub returns-clause-learns : goal.returns-clause-learns
returns-clause-learns x = learned_as

pub returns-clause-copies : goal.returns-clause-copies
returns-clause-copies x = copied_as

pub returns-clause-teaches : goal.returns-clause-teaches
returns-clause-teaches x = taught_as

pub returns-clause-acknowledges : goal.returns-clause-acknowledges
returns-clause-acknowledges x = acknowledged_as

pub returns-clause-reopens : goal.returns-clause-reopens
returns-clause-reopens x = reopened_as
