use Rattle.node_commands.proofs.PrintingLaws.{SoFar}
use Rattle.node_commands.proofs.printing.push_tables.Given as goal

abbrev pub invariant-loop-table : goal.invariant-loop-table
invariant-loop-table l = SoFar l.tables l.table-index l.fn.text.items l.text.items
