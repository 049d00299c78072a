use Rattle.table_shards.proofs.MatchLaws.{round_summed, summed}
use Rattle.table_shards.proofs.laws.receipts_are_the_events.Goals as goal

pub returns-clause-round : goal.returns-clause-round
returns-clause-round c = round_summed

pub returns-clause-all : goal.returns-clause-all
returns-clause-all c = summed
