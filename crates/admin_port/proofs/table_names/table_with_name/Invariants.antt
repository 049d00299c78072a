use Rattle.std.proofs.Common.{◌≡◌, ◌++◌, drop}
use Rattle.admin_port.specs.TableNames.{table_with_name}
use Rattle.admin_text.specs.TableSettings.{definitions}
use Rattle.admin_port.proofs.table_names.table_with_name.Given as goal

abbrev pub invariant-loop-table : goal.invariant-loop-table
invariant-loop-table l =
    table_with_name l.name (definitions (drop l.table-index l.tables)) ≡ table_with_name l.name (definitions l.tables)
