use Rattle.interleave_core.proofs.ReopenedLater.{reopened_later, session_gone}
use Rattle.interleave_core.proofs.SessionSteps.{closed_as, opened_as}
use Rattle.interleave_core.proofs.session_laws.a_session_may_be_opened_later.Goals as goal

pub returns-clause-closes : goal.returns-clause-closes
returns-clause-closes x c e session closing = (closed_as c e session closing, session_gone c e session closing)

pub returns-clause-opens : goal.returns-clause-opens
returns-clause-opens x c e session version opening = opened_as c e session version opening

pub returns-clause-between : goal.returns-clause-between
returns-clause-between x c mid far e session version others sound closing between opening = reopened_later c mid far e session version others sound closing between opening
