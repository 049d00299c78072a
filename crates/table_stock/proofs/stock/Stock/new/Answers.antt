use Rattle.std.proofs.Common.{◌≤◌, ◌^◌, arith, sym, subst}
use Rattle.table_stock.specs.Shelves.{row_in}
use Rattle.table_stock.proofs.SlotLaws.{empty_slots}
use Rattle.table_stock.proofs.ShelfLaws.{new_shelved}
use Rattle.table_stock.proofs.stock.Stock.new.Goals as goal

pub invariant_of-result : goal.invariant_of-result
invariant_of-result c =
    new_shelved c.from.result c.new.result.entries (row_in c.new-2.result.rows) c.new-3.result.entries c.new-4.result.keys (omega (arith, c.requires, c.from.ensures)) (omega (arith, c.ranges.first.fits, c.from.ensures))
    c.new.ensures.empty (empty_slots c.new-2.result.rows c.new-2.ensures) c.new-3.ensures c.new-4.ensures.empty
