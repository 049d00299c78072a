use Rattle.session_core.proofs.EitherClock.{run_idle, tick_idle}
use Rattle.session_core.proofs.clock_laws.ticks_change_nothing_else.Goals as goal

pub returns-clause-tick : goal.returns-clause-tick
returns-clause-tick c = tick_idle

pub returns-clause-run : goal.returns-clause-run
returns-clause-run c = run_idle
