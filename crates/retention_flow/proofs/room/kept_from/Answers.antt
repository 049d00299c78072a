use Rattle.std.proofs.Common.{◌≡◌, ℕ, ◌<◌, length, slice_index, ◌∙◌, arith}
use Rattle.retention_flow.specs.Network.{arc_at}
use Rattle.retention_flow.proofs.RoomIsLeft.{counted-few, any_default}
use Rattle.retention_flow.proofs.room.kept_from.Goals as goal

pub overflow_add-index_mut : goal.overflow_add-index_mut
overflow_add-index_mut c =
    let arcs = c.args.arcs.now in
    let index = c.loop-arc.arc-index in
    let begun = c.loop-arc.begun.items in
    let from : ℕ = (arc_at arcs index).from in
    let within : from < length begun = omega (arith, c.requires.back index c.loop-arc-test.true, c.loop-arc.invariant.long, c.loop-arc-test.true) in
    let count : c.index_mut.result.now ≡ slice_index begun from = c.index_mut.ensures.value ∙ any_default begun from c.index_mut.result.now within in
    omega (arith, count, counted-few arcs index begun c.requires.most c.loop-arc.invariant.counted from)
