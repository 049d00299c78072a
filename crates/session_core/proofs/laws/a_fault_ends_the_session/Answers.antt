use Rattle.session_core.proofs.EitherRuns.{faultless_so}
use Rattle.session_core.proofs.laws.a_fault_ends_the_session.Goals as goal

pub returns : goal.returns
returns c = faultless_so
