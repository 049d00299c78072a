use Rattle.std.proofs.Common.{◌≡◌, ◌++◌, drop}
use Rattle.std.specs.List.{flat_map}
use Rattle.admin_port.specs.TableMetrics.{column_family, column_sample}
use Rattle.admin_port.proofs.table_metrics.push_column.Given as goal

abbrev pub invariant-loop-table : goal.invariant-loop-table
invariant-loop-table l =
    l.text.items ++ flat_map (column_sample l.section l.column) (drop l.table-index l.tables)
    ≡ l.fn.text.items ++ column_family l.section l.column l.tables
