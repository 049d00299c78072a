use Rattle.std.proofs.Common.{◌≡◌, drop}
use Rattle.table_types.specs.Updates.{values_fit}
use Rattle.table_types.proofs.update.values_fit.Given as goal

abbrev pub invariant-loop-entry : goal.invariant-loop-entry
invariant-loop-entry l = values_fit (drop l.entry-index l.types) l.rest ≡ values_fit l.types l.values
