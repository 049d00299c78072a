use Rattle.table_stock.specs.Shelves.{IsSwept, row_in}
use Rattle.table_stock.proofs.log.Log.sweep.Given as goal

abbrev pub invariant-loop : goal.invariant-loop
invariant-loop l = IsSwept (row_in l.slots.rows) l.fn.self.entries l.self.entries
