use Rattle.std.proofs.Common.{◌≡◌, drop}
use Rattle.learner.specs.LocalTables.{local_table}
use Rattle.learner.proofs.local_tables.local_table.Given as goal

abbrev pub invariant-loop-table : goal.invariant-loop-table
invariant-loop-table l = local_table (drop l.table-index l.roster) l.received ≡ local_table l.roster l.received
