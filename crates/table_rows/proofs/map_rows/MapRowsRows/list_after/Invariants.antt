use Rattle.std.proofs.Common.{◌≡◌, ◌≤◌, ◌++◌, length, option_copied}
use Rattle.table_rows.specs.Rows.{rows_after}
use Rattle.table_rows.proofs.map_rows.MapRowsRows.list_after.Given as goal

abbrev pub invariant-loop-key : goal.invariant-loop-key
invariant-loop-key l = (l.list.items ++ l.key-iterator ≡ rows_after (option_copied l.after) l.self) × (length l.list.items ≤ l.most)
