use Rattle.table_shards.proofs.MissLaws.{found_apart, found_dropped, found_renewed}
use Rattle.table_shards.proofs.laws.an_audit_finds_what_is_missed.Goals as goal

pub returns-clause-dropped : goal.returns-clause-dropped
returns-clause-dropped c = found_dropped

pub returns-clause-renewed : goal.returns-clause-renewed
returns-clause-renewed c = found_renewed

pub returns-clause-apart : goal.returns-clause-apart
returns-clause-apart c = found_apart
