use Rattle.std.proofs.Common.{◌≡◌, drop}
use Rattle.table_types.specs.Rosters.{repeats_name}
use Rattle.table_types.proofs.roster.repeats_name.Given as goal

abbrev pub invariant-loop-index : goal.invariant-loop-index
invariant-loop-index l = repeats_name (drop l.index l.tables) ≡ repeats_name l.tables
