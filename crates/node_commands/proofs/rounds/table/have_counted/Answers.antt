use Rattle.node_commands.proofs.CountLaws.{one_more_counted}
use Rattle.node_commands.proofs.rounds.table.have_counted.Goals as goal

pub loop-before-preserved : goal.loop-before-preserved
loop-before-preserved c = one_more_counted c.args.rows.now c.args.count c.loop-before.before c.count_at.result c.requires c.if-count_at-count.false c.count_at.ensures c.loop-before.invariant
