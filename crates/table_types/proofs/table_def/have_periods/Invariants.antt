use Rattle.std.proofs.Common.{◌≡◌, drop}
use Rattle.std.specs.List.{list_all}
use Rattle.table_types.specs.Tables.{has_its_period}
use Rattle.table_types.proofs.table_def.have_periods.Given as goal

abbrev pub invariant-loop-entry : goal.invariant-loop-entry
invariant-loop-entry l =
    list_all has_its_period (drop l.entry-index l.types) ≡ list_all has_its_period l.types
