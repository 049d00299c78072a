use Rattle.peers_engine.proofs.RunLaws.{halts_in_a_run, idles_in_a_run, reacts_in_a_run}
use Rattle.peers_engine.proofs.laws.what_is_written_is_the_run.Goals as goal

pub returns-clause-reacts : goal.returns-clause-reacts
returns-clause-reacts c = reacts_in_a_run

pub returns-clause-idles : goal.returns-clause-idles
returns-clause-idles c = idles_in_a_run

pub returns-clause-halts : goal.returns-clause-halts
returns-clause-halts c = halts_in_a_run
