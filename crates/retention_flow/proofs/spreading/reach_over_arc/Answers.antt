use Rattle.std.proofs.Common.{[]}
use Rattle.retention_flow.proofs.TurnedResiduals.{arcs_calm}
use Rattle.retention_flow.proofs.SpreadGoesOn.{leaves_within}
use Rattle.retention_flow.proofs.spreading.reach_over_arc.Goals as goal

pub over_arc-leaving-requires-clause-calm : goal.over_arc-leaving-requires-clause-calm
over_arc-leaving-requires-clause-calm c = arcs_calm c.args.heights.now c.args.network.now.room.now c.args.network.now.arcs.now c.requires.calm c.args.node c.requires.node

pub reach_freely-requires : goal.reach_freely-requires
reach_freely-requires c = leaves_within c.args.heights.now [] c.args.network.now.arcs.now c.args.steps.now c.over_arc-leaving.result c.requires.long (c.over_arc-leaving.ensures.leaves [])

pub returns-clause-spread : goal.returns-clause-spread
returns-clause-spread c = λ source spread.
    let room = c.args.network.now.room.now in
    c.in_ok-reach_freely.ensures.spread c.args.heights.now room c.args.network.now.arcs.now source c.requires.network.back c.requires.calm.count (c.over_arc-leaving.ensures.leaves room) spread
