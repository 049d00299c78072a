use Rattle.table_shards.proofs.AgreeLaws.{receipts_count}
use Rattle.table_shards.proofs.laws.as_many_receipts_as_events.Goals as goal

pub returns : goal.returns
returns c = receipts_count
