use Rattle.table_shards.proofs.MissLaws.{too_few}
use Rattle.table_shards.proofs.laws.forgotten_receipts_are_missed.Goals as goal

pub returns : goal.returns
returns c = too_few
