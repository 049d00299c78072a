use Rattle.std.proofs.Common.{arith}
use Rattle.table_types.specs.DataTypes.{is_same_type}
use Rattle.node_core.proofs.SameShapes.{none_left}
use Rattle.node_core.proofs.differences.have_same_types.Goals as goal

pub returns-in_default : goal.returns-in_default
returns-in_default c =
    none_left (λ t h. is_same_type t.0 h.0) c.args.own.now c.loop-entry.rest.now c.loop-entry.entry-index _ (omega arith) (omega (arith, c.in_default.ensures.cases)) c.loop-entry.invariant
