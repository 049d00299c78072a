use Rattle.table_shards.proofs.EventLaws.{never_lower, then_above, then_entry, then_last}
use Rattle.table_shards.proofs.laws.a_receipt_is_of_the_new_event.Goals as goal

pub returns-clause-entry : goal.returns-clause-entry
returns-clause-entry c = then_entry

pub returns-clause-last : goal.returns-clause-last
returns-clause-last c = then_last

pub returns-clause-above : goal.returns-clause-above
returns-clause-above c = then_above

pub returns-clause-seen : goal.returns-clause-seen
returns-clause-seen c = never_lower
