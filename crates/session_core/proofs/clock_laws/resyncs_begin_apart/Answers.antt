use Rattle.session_core.proofs.EitherClock.{reopens_so, rested, resyncs_apart}
use Rattle.session_core.proofs.clock_laws.resyncs_begin_apart.Goals as goal

pub returns-clause-rested : goal.returns-clause-rested
returns-clause-rested c = rested

pub returns-clause-apart : goal.returns-clause-apart
returns-clause-apart c = resyncs_apart

pub returns-clause-opens : goal.returns-clause-opens
returns-clause-opens c = reopens_so
