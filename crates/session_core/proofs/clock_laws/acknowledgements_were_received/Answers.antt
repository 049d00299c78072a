use Rattle.session_core.proofs.EitherClock.{acks_received}
use Rattle.session_core.proofs.clock_laws.acknowledgements_were_received.Goals as goal

pub returns : goal.returns
returns c = acks_received
