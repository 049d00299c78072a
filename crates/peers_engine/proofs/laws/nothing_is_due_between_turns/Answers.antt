use Rattle.peers_engine.proofs.DueLaws.{none_after_event, none_after_idling, none_at_first, refused_then}
use Rattle.peers_engine.proofs.laws.nothing_is_due_between_turns.Goals as goal

pub returns-clause-begins : goal.returns-clause-begins
returns-clause-begins c = none_at_first

pub returns-clause-reacts : goal.returns-clause-reacts
returns-clause-reacts c = none_after_event

pub returns-clause-idles : goal.returns-clause-idles
returns-clause-idles c = none_after_idling

pub returns-clause-refused : goal.returns-clause-refused
returns-clause-refused c = refused_then
