use Rattle.std.proofs.Common.{length, refl, arith}
use Rattle.retention_flow.proofs.SpreadGoesOn.{some_reached}
use Rattle.retention_flow.proofs.path_search.reach_target.Goals as goal

pub spread-requires-clause-small : goal.spread-requires-clause-small
spread-requires-clause-small c = λ node below. omega (arith, c.requires.low c.args.heights.now c.requires.calm refl node below)

pub loop-init : goal.loop-init
loop-init c = record {
  calm = c.requires.calm;
  target = refl;
  grows = some_reached c.args.heights.now c.args.network.now.room.now c.args.network.now.arcs.now c.spread.new.steps c.args.ends.source (length c.spread.new.order.items) c.in_ok-spread.ensures.spread.found;
  spread = c.in_ok-spread.ensures.spread;
}
