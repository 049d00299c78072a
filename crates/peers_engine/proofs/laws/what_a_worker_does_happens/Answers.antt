use Rattle.peers_engine.proofs.WorkLaws.{event_happens, turn_happens}
use Rattle.peers_engine.proofs.laws.what_a_worker_does_happens.Goals as goal

pub returns-clause-turn : goal.returns-clause-turn
returns-clause-turn c = turn_happens

pub returns-clause-event : goal.returns-clause-event
returns-clause-event c = event_happens
