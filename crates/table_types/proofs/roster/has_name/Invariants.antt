use Rattle.std.proofs.Common.{◌≡◌, drop}
use Rattle.table_types.specs.Rosters.{has_name}
use Rattle.table_types.proofs.roster.has_name.Given as goal

abbrev pub invariant-loop-table : goal.invariant-loop-table
invariant-loop-table l = has_name l.name (drop l.table-index l.tables) ≡ has_name l.name l.tables
