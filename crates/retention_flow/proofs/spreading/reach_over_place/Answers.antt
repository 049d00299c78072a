use Rattle.retention_flow.proofs.SpreadGoesOn.{leaves_within}
use Rattle.retention_flow.proofs.spreading.reach_over_place.Goals as goal

pub reach_freely-requires : goal.reach_freely-requires
reach_freely-requires c =
    leaves_within c.args.heights.now c.args.network.now.room.now c.args.network.now.arcs.now c.args.steps.now c.over_place-leaving.result c.requires.long (c.over_place-leaving.ensures.leaves c.args.network.now.arcs.now c.requires.node)

pub returns-clause-spread : goal.returns-clause-spread
returns-clause-spread c = λ source spread.
    c.in_ok-reach_freely.ensures.spread c.args.heights.now c.args.network.now.room.now c.args.network.now.arcs.now source c.requires.network.back c.requires.calm.count (c.over_place-leaving.ensures.leaves c.args.network.now.arcs.now c.requires.node) spread
