use Rattle.std.proofs.Common.{◌∙◌}
use Rattle.table_types.specs.DataTypes.{all_types}
use Rattle.tolerant_intake.specs.Loose.{types_stored}
use Rattle.tolerant_intake.proofs.TypesStored.{type_passed, type_found, types_done}
use Rattle.tolerant_intake.proofs.loose_table.types_stored.Goals as goal

pub loop-data_type-preserved-then-bit-eq0 : goal.loop-data_type-preserved-then-bit-eq0
loop-data_type-preserved-then-bit-eq0 c =
    type_passed c.loop-data_type.types.items all_types c.loop-data_type.data_type-index c.loop-data_type.left c.loop-data_type.rest.now (types_stored all_types c.args.bits c.args.periods.now) c.loop-data_type-test.true c.if-bit-eq0.true c.loop-data_type.invariant

pub loop-data_type-preserved : goal.loop-data_type-preserved
loop-data_type-preserved c =
    rw c.in_ok-push.ensures.items (type_found c.loop-data_type.types.items all_types c.loop-data_type.data_type-index _ c.loop-data_type.left c.loop-data_type.rest.now (types_stored all_types c.args.bits c.args.periods.now) c.period_or_none-period.result.0 c.period_or_none-period.result.1.now c.loop-data_type-test.true c.if-bit-eq0.false c.loop-data_type.invariant c.period_or_none-period.ensures.period c.period_or_none-period.ensures.rest)

pub returns : goal.returns
returns c =
    c.new.ensures ∙ types_done c.loop-data_type.types.items all_types c.loop-data_type.data_type-index c.loop-data_type.left c.loop-data_type.rest.now (types_stored all_types c.args.bits c.args.periods.now) c.loop-data_type-test.false c.loop-data_type.invariant
