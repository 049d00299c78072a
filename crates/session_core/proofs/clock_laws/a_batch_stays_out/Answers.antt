use Rattle.session_core.proofs.EitherClock.{out_stays}
use Rattle.session_core.proofs.clock_laws.a_batch_stays_out.Goals as goal

pub returns : goal.returns
returns c = out_stays
