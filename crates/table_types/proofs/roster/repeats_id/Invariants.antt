use Rattle.std.proofs.Common.{◌≡◌, drop}
use Rattle.table_types.specs.Rosters.{repeats_id}
use Rattle.table_types.proofs.roster.repeats_id.Given as goal

abbrev pub invariant-loop-index : goal.invariant-loop-index
invariant-loop-index l = repeats_id (drop l.index l.tables) ≡ repeats_id l.tables
