use Rattle.table_types.specs.DataTypes.{all_types}
use Rattle.peers_msg.specs.Reading.{types_at}
use Rattle.peers_msg.proofs.ReadingLoops.{type_passed, type_read, type_fails, types_done, never_fails, list_found}
use Rattle.peers_msg.proofs.borrowed.definition_ref.types_of.Goals as goal

pub loop-data_type-preserved-then-bit-eq0 : goal.loop-data_type-preserved-then-bit-eq0
loop-data_type-preserved-then-bit-eq0 c =
    type_passed c.loop-data_type.types.items all_types c.loop-data_type.data_type-index c.loop-data_type.left c.loop-data_type.rest.now (types_at all_types c.args.stored c.args.periods.now) c.loop-data_type-test.true c.if-bit-eq0.true c.loop-data_type.invariant

pub unreachable-requires : goal.unreachable-requires
unreachable-requires c =
    let total = types_at all_types c.args.stored c.args.periods.now in
    never_fails total c.in-Err.field-0 (type_fails c.in-Err.field-0 c.loop-data_type.types.items all_types c.loop-data_type.data_type-index _ c.loop-data_type.left c.loop-data_type.rest.now total c.loop-data_type-test.true c.if-bit-eq0.false c.in-Err.ensures c.loop-data_type.invariant) c.requires

pub loop-data_type-preserved : goal.loop-data_type-preserved
loop-data_type-preserved c =
    rw c.in_ok-push-in-Ok.ensures.items (type_read c.loop-data_type.types.items all_types c.loop-data_type.data_type-index _ c.loop-data_type.left c.loop-data_type.rest.now c.in-Ok.period c.in-Ok.after.now (types_at all_types c.args.stored c.args.periods.now) c.loop-data_type-test.true c.if-bit-eq0.false c.in-Ok.ensures c.loop-data_type.invariant)

pub returns : goal.returns
returns c =
    let total = types_at all_types c.args.stored c.args.periods.now in
    list_found total c.loop-data_type.types.items c.loop-data_type.rest.now (types_done c.loop-data_type.types.items all_types c.loop-data_type.data_type-index c.loop-data_type.left c.loop-data_type.rest.now total c.loop-data_type-test.false c.loop-data_type.invariant)
