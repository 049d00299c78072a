use Rattle.session_core.proofs.EitherClock.{left_stays}
use Rattle.session_core.proofs.clock_laws.a_left_table_stays_left.Goals as goal

pub returns : goal.returns
returns c = left_stays
