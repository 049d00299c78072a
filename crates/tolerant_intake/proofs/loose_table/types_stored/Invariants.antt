use Rattle.std.proofs.Common.{◌≡◌, ◌++◌, drop}
use Rattle.table_types.specs.DataTypes.{all_types}
use Rattle.tolerant_intake.specs.Loose.{types_stored}
use Rattle.tolerant_intake.proofs.loose_table.types_stored.Given as goal

abbrev pub invariant-loop-data_type : goal.invariant-loop-data_type
invariant-loop-data_type l =
    l.types.items ++ types_stored (drop l.data_type-index all_types) l.left l.rest ≡ types_stored all_types l.bits l.periods
