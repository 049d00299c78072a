use Rattle.table_shards.proofs.MissLaws.{anew_counts, event_counts, renewal_counts, slide_counts}
use Rattle.table_shards.proofs.laws.renewals_are_counted.Goals as goal

pub returns-clause-renewed : goal.returns-clause-renewed
returns-clause-renewed c = renewal_counts

pub returns-clause-event : goal.returns-clause-event
returns-clause-event c = event_counts

pub returns-clause-slide : goal.returns-clause-slide
returns-clause-slide c = slide_counts

pub returns-clause-anew : goal.returns-clause-anew
returns-clause-anew c = anew_counts
