use Rattle.std.proofs.Common.{sym, ◌∙◌}
use Rattle.peers_msg.specs.Reading.{values_at}
use Rattle.peers_msg.proofs.ReadingLoops.{value_passed, value_read, value_fails, values_done, never_fails, list_found}
use Rattle.peers_msg.proofs.borrowed.values_ref.values_of.Goals as goal

pub loop-entry-preserved-then-is_name_shape : goal.loop-entry-preserved-then-is_name_shape
loop-entry-preserved-then-is_name_shape c =
    value_passed c.loop-entry.values c.args.types.now c.loop-entry.entry-index _ c.loop-entry.rest.now c.shape-shape.result (values_at c.args.types.now c.args.bytes.now) c.loop-entry-test.true c.shape-shape.ensures (sym c.is_name_shape.ensures ∙ c.if-is_name_shape.true) c.loop-entry.invariant

pub unreachable-requires : goal.unreachable-requires
unreachable-requires c =
    let total = values_at c.args.types.now c.args.bytes.now in
    never_fails total c.in-Err.field-0 (value_fails c.in-Err.field-0 c.loop-entry.values c.args.types.now c.loop-entry.entry-index _ c.loop-entry.rest.now c.shape-shape.result total c.loop-entry-test.true c.shape-shape.ensures (sym c.is_name_shape.ensures ∙ c.if-is_name_shape.false) c.in-Err.ensures c.loop-entry.invariant) c.requires

pub loop-entry-preserved : goal.loop-entry-preserved
loop-entry-preserved c =
    rw c.in_ok-values-in-Ok.ensures (value_read c.loop-entry.values c.args.types.now c.loop-entry.entry-index _ c.loop-entry.rest.now c.shape-shape.result c.in-Ok.value c.in-Ok.after.now (values_at c.args.types.now c.args.bytes.now) c.loop-entry-test.true c.shape-shape.ensures (sym c.is_name_shape.ensures ∙ c.if-is_name_shape.false) c.in-Ok.ensures c.loop-entry.invariant)

pub returns : goal.returns
returns c =
    let total = values_at c.args.types.now c.args.bytes.now in
    list_found total c.loop-entry.values c.loop-entry.rest.now (values_done c.loop-entry.values c.args.types.now c.loop-entry.entry-index c.loop-entry.rest.now total c.loop-entry-test.false c.loop-entry.invariant)
