use Rattle.table_shards.proofs.PageLaws.{then_seen, one_more, other_tables}
use Rattle.table_shards.proofs.laws.one_receipt_more.Goals as goal

pub returns-clause-seen : goal.returns-clause-seen
returns-clause-seen c = then_seen

pub returns-clause-last : goal.returns-clause-last
returns-clause-last c = one_more

pub returns-clause-others : goal.returns-clause-others
returns-clause-others c = other_tables
