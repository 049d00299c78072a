use Rattle.std.proofs.Common.{◌≡◌, ◌+◌, ◌≤◌, length}
use Rattle.std.specs.Prelude.{filter}
use Rattle.table_rows.specs.Rows.{is_live}
use Rattle.table_stock.proofs.stock.Stock.drop_ended.Given as goal

-- the live rows are as before, and each iteration removed one row
abbrev pub invariant-loop : goal.invariant-loop
invariant-loop l =
    (filter (λ e. is_live l.now e.1) l.self.rows ≡ filter (λ e. is_live l.now e.1) l.fn.self.rows)
    × (l.self.next ≡ l.fn.self.next)
    × (length l.self.rows + l.counter ≤ l.most)
