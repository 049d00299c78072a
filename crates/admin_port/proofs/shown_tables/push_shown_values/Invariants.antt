use Rattle.std.proofs.Common.{◌≡◌, ◌++◌, drop, true}
use Rattle.std.specs.List.{list_all}
use Rattle.table_types.specs.Tables.{has_its_period}
use Rattle.admin_port.specs.ShownTables.{shown_values}
use Rattle.admin_port.proofs.shown_tables.push_shown_values.Given as goal

abbrev pub invariant-loop-data_type : goal.invariant-loop-data_type
invariant-loop-data_type l = record {
  periods : list_all has_its_period (drop l.data_type-index l.table.types) ≡ true;
  values : l.text.items ++ shown_values l.moment l.row.name (drop l.data_type-index l.table.types) l.cells
      ≡ l.fn.text.items ++ shown_values l.moment l.row.name l.table.types l.row.cells;
}
