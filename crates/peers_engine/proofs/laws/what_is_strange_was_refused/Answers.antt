use Rattle.peers_engine.proofs.CauseLaws.{strange_changed, strange_kept}
use Rattle.peers_engine.proofs.laws.what_is_strange_was_refused.Goals as goal

pub returns-clause-kept : goal.returns-clause-kept
returns-clause-kept c = strange_kept

pub returns-clause-changed : goal.returns-clause-changed
returns-clause-changed c = strange_changed
