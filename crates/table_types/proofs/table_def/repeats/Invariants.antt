use Rattle.std.proofs.Common.{◌≡◌, drop}
use Rattle.table_types.specs.Tables.{repeats}
use Rattle.table_types.proofs.table_def.repeats.Given as goal

abbrev pub invariant-loop-index : goal.invariant-loop-index
invariant-loop-index l = repeats (drop l.index l.types) ≡ repeats l.types
