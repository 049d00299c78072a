use Rattle.std.proofs.Common.{inr}
use Rattle.node_commands.proofs.CountLaws.{cut_short}
use Rattle.node_commands.proofs.rounds.gated_round.Goals as goal

pub returns-clause-silent : goal.returns-clause-silent
returns-clause-silent g c = λ not_done.
    let a = c.args.asked in
    inr (
      c.device-in-Err-write_all.ensures,
      cut_short a.threads a.tracks a.rounds (g.W.Write.contents c.args.output.now) (g.W.Write.contents c.write_all.new.output) c.in-Ok.text.items c.as_slice.result.now _ c.as_slice.ensures.value c.in-Ok.ensures c.in-Err-write_all.ensures.within c.in-Err-write_all.ensures.sent,
    )
