use Rattle.std.proofs.Common.{◌<◌, [], length, slice_index, arith}
use Rattle.retention_flow.proofs.TurnedResiduals.{arcs_calm}
use Rattle.retention_flow.proofs.SpreadGoesOn.{leaves_below}
use Rattle.retention_flow.proofs.distances.note_from_first.Goals as goal

pub over_arc-leaving-requires-clause-calm : goal.over_arc-leaving-requires-clause-calm
over_arc-leaving-requires-clause-calm c =
    let first = slice_index c.args.network.now.first.now c.loop-place.place in
    let below : first < length c.args.network.now.arcs.now = c.requires.network.first c.loop-place.place c.loop-place-test.true in
    arcs_calm c.args.heights.now c.args.network.now.room.now c.args.network.now.arcs.now c.requires.calm first below

pub note-requires-clause-node : goal.note-requires-clause-node
note-requires-clause-node c =
    leaves_below c.args.heights.now [] c.args.network.now.arcs.now c.args.steps.now c.over_arc-leaving.result (length c.loop-place.found.least.items) (omega (arith, c.loop-place.invariant, c.requires.long)) (c.over_arc-leaving.ensures.leaves [])
