use Rattle.node_commands.proofs.CountLaws.{one_more_round}
use Rattle.node_commands.proofs.rounds.run.Goals as goal

pub loop-before-preserved : goal.loop-before-preserved
loop-before-preserved g c =
    let was = c.loop-before.invariant in
    one_more_round c.args.asked.threads c.args.asked.tracks c.loop-before.before c.in_ok-audit-2.audit c.loop-before.audit was.0 was.1 was.2 c.in_ok-audit-2.ensures.audited c.in_ok-audit-2.ensures.goes_on
