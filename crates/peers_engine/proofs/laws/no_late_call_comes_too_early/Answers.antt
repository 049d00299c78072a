use Rattle.peers_engine.proofs.MomentLaws.{copy_never_back, learn_never_back}
use Rattle.peers_engine.proofs.laws.no_late_call_comes_too_early.Goals as goal

pub returns-clause-learn : goal.returns-clause-learn
returns-clause-learn c = learn_never_back

pub returns-clause-copy : goal.returns-clause-copy
returns-clause-copy c = copy_never_back
