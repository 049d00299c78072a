use Rattle.std.proofs.Common.{◌≡◌, ◌++◌, length}
use Rattle.std.specs.Prelude.{map}
use Rattle.std.specs.List.{AllByRecursion}
use Rattle.std.specs.Vec.Iter.{into_iter_items, into_iter_len}
use Rattle.node_text.specs.ScriptTables.{IsScriptTable}
use Rattle.text_commands.specs.Running.{cell_of}
use Rattle.text_commands.proofs.world_running.cells_of.Given as goal

abbrev pub invariant-loop-table : goal.invariant-loop-table
invariant-loop-table l = record {
  count : into_iter_len l.table-iterator ≡ length (into_iter_items l.table-iterator);
  tables : AllByRecursion IsScriptTable (into_iter_items l.table-iterator);
  made : l.cells.items ++ map cell_of (into_iter_items l.table-iterator) ≡ map cell_of l.fn.tables.items;
}
