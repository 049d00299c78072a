use Rattle.session_core.proofs.EitherRuns.{confirmed_so}
use Rattle.session_core.proofs.laws.confirmed_is_sent.Goals as goal

pub returns : goal.returns
returns c = confirmed_so
