use Rattle.std.proofs.Common.{◌-◌, arith}
use Rattle.retention_flow.proofs.SpreadGoesOn.{leaves_within}
use Rattle.retention_flow.proofs.distances.over_place_before.Goals as goal

pub returns : goal.returns
returns c =
    let arcs = c.args.network.now.arcs.now in
    leaves_within c.args.heights.now c.args.network.now.room.now arcs c.args.steps.now c.over_place.result c.requires.steps (c.over_place.ensures.leaves arcs (omega (arith, c.requires.node, c.if-node-eq0.false)))
