use Rattle.session_core.proofs.EitherClock.{work_left}
use Rattle.session_core.proofs.clock_laws.a_resync_has_work_left.Goals as goal

pub returns : goal.returns
returns c = work_left
