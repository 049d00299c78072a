use Rattle.std.proofs.Common.{◌≡◌, ◌+◌, ◌++◌, length}
use Rattle.table_stock.specs.NumberedRows.{numbered_from}
use Rattle.table_stock.proofs.stock.Stock.renumbered.Given as goal

-- the rows stored so far, and those that are left under the numbers from the next one on
abbrev pub invariant-loop-key : goal.invariant-loop-key
invariant-loop-key l =
    (l.stock.rows ++ numbered_from l.stock.next l.key-iterator ≡ numbered_from 1 l.fn.self.rows)
    × (l.stock.next + length l.key-iterator ≡ length l.fn.self.rows + 1)
