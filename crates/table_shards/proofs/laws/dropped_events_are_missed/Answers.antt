use Rattle.table_shards.proofs.MissLaws.{anew_drops, none_dropped, slide_drops, still_dropped}
use Rattle.table_shards.proofs.laws.dropped_events_are_missed.Goals as goal

pub returns-clause-none : goal.returns-clause-none
returns-clause-none c = none_dropped

pub returns-clause-slide : goal.returns-clause-slide
returns-clause-slide c = slide_drops

pub returns-clause-anew : goal.returns-clause-anew
returns-clause-anew c = anew_drops

pub returns-clause-later : goal.returns-clause-later
returns-clause-later c = still_dropped
