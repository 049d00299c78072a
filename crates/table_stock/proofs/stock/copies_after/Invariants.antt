use Rattle.std.proofs.Common.{◌≡◌, ◌≤◌, ◌++◌, length, option_copied}
use Rattle.std.specs.Prelude.{filter}
use Rattle.table_rows.specs.Rows.{follows}
use Rattle.table_stock.specs.Shelves.{listed, row_in}
use Rattle.table_stock.proofs.stock.copies_after.Given as goal

-- the rows that were copied, and those of the keys that are left
abbrev pub invariant-loop-slot : goal.invariant-loop-slot
invariant-loop-slot l =
    (l.list.items ++ listed (row_in l.slots.rows) l.slot-iterator ≡ listed (row_in l.slots.rows) (filter (λ e. follows (option_copied l.after) e.0) l.keys.entries))
    × (length l.list.items ≤ l.most)
