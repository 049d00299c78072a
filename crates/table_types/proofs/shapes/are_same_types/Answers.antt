use Rattle.std.proofs.Common.{arith}
use Rattle.table_types.proofs.OneTableByShape.{some_left}
use Rattle.table_types.proofs.shapes.are_same_types.Goals as goal

pub returns-in_default : goal.returns-in_default
returns-in_default c =
    some_left c.args.one.now c.loop-entry.rest.now c.loop-entry.entry-index _ (omega arith) (omega (arith, c.in_default.ensures.cases)) c.loop-entry.invariant
