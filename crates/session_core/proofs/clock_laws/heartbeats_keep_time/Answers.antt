use Rattle.session_core.proofs.EitherClock.{fresh, heartbeats_apart, sent_last, silence}
use Rattle.session_core.proofs.clock_laws.heartbeats_keep_time.Goals as goal

pub returns-clause-sent : goal.returns-clause-sent
returns-clause-sent c = sent_last

pub returns-clause-fresh : goal.returns-clause-fresh
returns-clause-fresh c = fresh

pub returns-clause-apart : goal.returns-clause-apart
returns-clause-apart c = heartbeats_apart

pub returns-clause-silence : goal.returns-clause-silence
returns-clause-silence c = silence
