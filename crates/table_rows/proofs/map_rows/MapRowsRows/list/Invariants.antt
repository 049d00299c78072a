use Rattle.std.proofs.Common.{◌≡◌, ◌++◌}
use Rattle.table_rows.proofs.map_rows.MapRowsRows.list.Given as goal

abbrev pub invariant-loop-key : goal.invariant-loop-key
invariant-loop-key l = l.list.items ++ l.key-iterator ≡ l.self
