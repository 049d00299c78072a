use Rattle.std.proofs.Common.{◌≡◌, drop}
use Rattle.table_types.specs.Shapes.{are_same_types}
use Rattle.table_types.proofs.shapes.are_same_types.Given as goal

abbrev pub invariant-loop-entry : goal.invariant-loop-entry
invariant-loop-entry l = are_same_types (drop l.entry-index l.one) l.rest ≡ are_same_types l.one l.other
