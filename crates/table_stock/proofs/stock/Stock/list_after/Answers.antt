use Rattle.std.proofs.Common.{◌≡◌, ℕ, List, option_copied, subst}
use Rattle.std.specs.Result.{IfOk}
use Rattle.table_stock.specs.Shelves.{row_in}
use Rattle.table_stock.specs.Stock.{AreNextInRisingKey, Stocked}
use Rattle.table_stock.proofs.ListLaws.{next_copied}
use Rattle.table_stock.proofs.stock.Stock.list_after.Goals as goal

pub returns : goal.returns
returns c =
    let stock = c.self.inside in
    rw (← c.self.view_is)
    (next_copied c.copies_after.result (λ list. list.items) stock.keys.entries (row_in stock.slots.rows) stock.log.entries stock.next stock.ends.keys c.self.invariant (option_copied c.args.after) c.args.most c.copies_after.ensures.copies c.copies_after.ensures.rising)
