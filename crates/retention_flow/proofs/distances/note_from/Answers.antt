use Rattle.std.proofs.Common.{rules, ◌<◌, [], length, slice_index, arith}
use Rattle.retention_flow.proofs.TurnedResiduals.{arcs_calm}
use Rattle.retention_flow.proofs.SpreadGoesOn.{leaves_below}
use Rattle.retention_flow.proofs.distances.note_from.Goals as goal

pub over_arc-over-requires-clause-calm : goal.over_arc-over-requires-clause-calm
over_arc-over-requires-clause-calm c =
    let below : c.args.node < length c.args.network.now.arcs.now = search rules in
    arcs_calm c.args.heights.now c.args.network.now.room.now c.args.network.now.arcs.now c.requires.calm c.args.node below

pub over_arc-on-requires-clause-calm : goal.over_arc-on-requires-clause-calm
over_arc-on-requires-clause-calm c =
    let below : c.args.node < length c.args.network.now.arcs.now = search rules in
    arcs_calm c.args.heights.now c.args.network.now.room.now c.args.network.now.arcs.now c.requires.calm (slice_index c.args.network.now.later.now c.args.node) (c.requires.network.later.1 c.args.node below)

pub note-requires-2-clause-node : goal.note-requires-2-clause-node
note-requires-2-clause-node c =
    leaves_below c.args.heights.now [] c.args.network.now.arcs.now c.args.steps.now c.over_arc-over.result (length c.note_from_first.new.found.least.items) (omega (arith, c.requires.long, c.in_ok-note.ensures, c.in_ok-note_from_first.ensures)) (c.over_arc-over.ensures.leaves [])

pub note-requires-3-clause-node : goal.note-requires-3-clause-node
note-requires-3-clause-node c =
    leaves_below c.args.heights.now [] c.args.network.now.arcs.now c.args.steps.now c.over_arc-on.result (length c.note-2.new.found.least.items) (omega (arith, c.requires.long, c.in_ok-note.ensures, c.in_ok-note_from_first.ensures, c.in_ok-note-2.ensures)) (c.over_arc-on.ensures.leaves [])
