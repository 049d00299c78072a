use Rattle.std.proofs.Common.{drop}
use Rattle.node_commands.specs.Auditing.{AreTablesOf}
use Rattle.node_commands.proofs.node.auditing.are_tables_of.Given as goal

abbrev pub invariant-loop-table : goal.invariant-loop-table
invariant-loop-table l = AreTablesOf l.rest (drop l.table-index l.tables) → AreTablesOf l.definitions l.tables
