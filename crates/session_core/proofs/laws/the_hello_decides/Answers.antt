use Rattle.session_core.proofs.EitherRuns.{accepts_so, connects_so}
use Rattle.session_core.proofs.laws.the_hello_decides.Goals as goal

pub returns-clause-connects : goal.returns-clause-connects
returns-clause-connects c = connects_so

pub returns-clause-accepts : goal.returns-clause-accepts
returns-clause-accepts c = accepts_so
