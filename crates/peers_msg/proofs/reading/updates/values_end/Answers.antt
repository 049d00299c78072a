use Rattle.std.proofs.Common.{sym, ◌∙◌}
use Rattle.std.proofs.lemmas.Result.{err_from_is_err_and}
use Rattle.peers_msg.specs.Reading.{values_at}
use Rattle.peers_msg.proofs.ReadingLoops.{value_passed, value_read, value_fails, values_done, all_read}
use Rattle.peers_msg.proofs.reading.updates.values_end.Goals as goal

pub loop-entry-preserved-then-is_name_shape : goal.loop-entry-preserved-then-is_name_shape
loop-entry-preserved-then-is_name_shape c =
    (c.loop-entry.invariant.0, value_passed c.loop-entry.invariant.0 c.args.types.now c.loop-entry.entry-index _ c.loop-entry.rest.now c.shape-shape.result (values_at c.args.types.now c.args.bytes.now) c.loop-entry-test.true c.shape-shape.ensures (sym c.is_name_shape.ensures ∙ c.if-is_name_shape.true) c.loop-entry.invariant.1)

pub returns-in_err-value : goal.returns-in_err-value
returns-in_err-value c =
    let p = err_from_is_err_and c.from_residual.result c.from_residual.ensures.1 in
    rw (p.1, p.2) (value_fails c.in_err-value.field-0.0 c.loop-entry.invariant.0 c.args.types.now c.loop-entry.entry-index _ c.loop-entry.rest.now c.shape-shape.result (values_at c.args.types.now c.args.bytes.now) c.loop-entry-test.true c.shape-shape.ensures (sym c.is_name_shape.ensures ∙ c.if-is_name_shape.false) c.in_err-value.ensures c.loop-entry.invariant.1)

pub loop-entry-preserved : goal.loop-entry-preserved
loop-entry-preserved c =
    (_, value_read c.loop-entry.invariant.0 c.args.types.now c.loop-entry.entry-index _ c.loop-entry.rest.now c.shape-shape.result c.in_ok-value.value c.in_ok-value.after.now (values_at c.args.types.now c.args.bytes.now) c.loop-entry-test.true c.shape-shape.ensures (sym c.is_name_shape.ensures ∙ c.if-is_name_shape.false) c.in_ok-value.ensures c.loop-entry.invariant.1)

pub returns : goal.returns
returns c = all_read (values_at c.args.types.now c.args.bytes.now) c.loop-entry.invariant.0 c.loop-entry.rest.now (values_done c.loop-entry.invariant.0 c.args.types.now c.loop-entry.entry-index c.loop-entry.rest.now (values_at c.args.types.now c.args.bytes.now) c.loop-entry-test.false c.loop-entry.invariant.1)
