use Rattle.interleave_core.proofs.TieOpenings.{fresh_ties, new_ties, others_reopened, still_ties}
use Rattle.interleave_core.proofs.tie_laws.a_new_session_is_tied.Goals as goal

pub returns-clause-opened : goal.returns-clause-opened
returns-clause-opened c = fresh_ties

pub returns-clause-begun : goal.returns-clause-begun
returns-clause-begun c = new_ties

pub returns-clause-reopened : goal.returns-clause-reopened
returns-clause-reopened c = still_ties

pub returns-clause-other : goal.returns-clause-other
returns-clause-other c = others_reopened
