use Rattle.std.proofs.Common.{◌≡◌, drop}
use Rattle.table_types.specs.Rosters.{table_at}
use Rattle.table_types.proofs.roster.table_at.Given as goal

abbrev pub invariant-loop-table : goal.invariant-loop-table
invariant-loop-table l = table_at (drop l.table-index l.tables) l.id ≡ table_at l.tables l.id
