use Rattle.std.proofs.lemmas.Result.{err_from_is_err_and}
use Rattle.table_types.specs.DataTypes.{all_types}
use Rattle.peers_msg.specs.Reading.{types_at}
use Rattle.peers_msg.proofs.ReadingLoops.{type_passed, type_read, type_fails, types_done, all_read}
use Rattle.peers_msg.proofs.reading.definitions.types_end.Goals as goal

pub returns-in_err-period : goal.returns-in_err-period
returns-in_err-period c =
    let p = err_from_is_err_and c.from_residual.result c.from_residual.ensures.1 in
    rw (p.1, p.2) (type_fails c.in_err-period.field-0.0 c.loop-data_type.invariant.0 all_types c.loop-data_type.data_type-index _ c.loop-data_type.left c.loop-data_type.rest.now (types_at all_types c.args.bits c.args.bytes.now) c.loop-data_type-test.true c.if-bit-eq0.false c.in_err-period.ensures c.loop-data_type.invariant.1)

pub loop-data_type-preserved-then-bit-eq0 : goal.loop-data_type-preserved-then-bit-eq0
loop-data_type-preserved-then-bit-eq0 c =
    (c.loop-data_type.invariant.0, type_passed c.loop-data_type.invariant.0 all_types c.loop-data_type.data_type-index c.loop-data_type.left c.loop-data_type.rest.now (types_at all_types c.args.bits c.args.bytes.now) c.loop-data_type-test.true c.if-bit-eq0.true c.loop-data_type.invariant.1)

pub loop-data_type-preserved : goal.loop-data_type-preserved
loop-data_type-preserved c =
    (_, type_read c.loop-data_type.invariant.0 all_types c.loop-data_type.data_type-index _ c.loop-data_type.left c.loop-data_type.rest.now c.in_ok-period.period c.in_ok-period.after.now (types_at all_types c.args.bits c.args.bytes.now) c.loop-data_type-test.true c.if-bit-eq0.false c.in_ok-period.ensures c.loop-data_type.invariant.1)

pub returns : goal.returns
returns c = all_read (types_at all_types c.args.bits c.args.bytes.now) c.loop-data_type.invariant.0 c.loop-data_type.rest.now (types_done c.loop-data_type.invariant.0 all_types c.loop-data_type.data_type-index c.loop-data_type.left c.loop-data_type.rest.now (types_at all_types c.args.bits c.args.bytes.now) c.loop-data_type-test.false c.loop-data_type.invariant.1)
