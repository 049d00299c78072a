use Rattle.session_core.proofs.EitherClock.{names_alone, names_forgotten}
use Rattle.session_core.proofs.clock_laws.no_name_is_lost.Goals as goal

pub returns-clause-alone : goal.returns-clause-alone
returns-clause-alone c = names_alone

pub returns-clause-forgotten : goal.returns-clause-forgotten
returns-clause-forgotten c = names_forgotten
