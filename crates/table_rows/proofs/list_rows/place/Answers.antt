use Rattle.table_rows.proofs.ListLaws.{past_more}
use Rattle.table_rows.proofs.list_rows.place.Goals as goal

pub loop-index-preserved : goal.loop-index-preserved
loop-index-preserved c = past_more c.args.key.now c.args.rows.now c.loop-index.index c.index-rows-index.result c.loop-index-test.true c.in-Greater.ensures c.loop-index.invariant
