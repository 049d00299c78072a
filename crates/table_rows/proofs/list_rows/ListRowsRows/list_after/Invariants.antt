use Rattle.std.proofs.Common.{◌≡◌, ◌≤◌, ◌-◌, ◌++◌, length, take, drop, option_copied}
use Rattle.table_rows.specs.Rows.{rows_after}
use Rattle.table_rows.proofs.list_rows.ListRowsRows.list_after.Given as goal

-- the rows listed, and those that follow among the rest
abbrev pub invariant-loop-entry : goal.invariant-loop-entry
invariant-loop-entry l =
    (l.list.items ++ take (l.most - length l.list.items) (rows_after (option_copied l.after) (drop l.entry-index l.self))
    ≡ take l.most (rows_after (option_copied l.after) l.self))
    × (length l.list.items ≤ l.most)
