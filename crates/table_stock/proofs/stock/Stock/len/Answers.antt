use Rattle.std.proofs.Common.{length, ap, ◌∙◌}
use Rattle.table_stock.specs.Shelves.{row_in, rows_in}
use Rattle.table_stock.specs.Stock.{Stocked}
use Rattle.table_stock.proofs.EndCounts.{as_many_ends}
use Rattle.table_stock.proofs.stock.Stock.len.Goals as goal

pub returns : goal.returns
returns c =
    let stock = c.self.inside in
    c.len.ensures.len
    ∙ as_many_ends stock.next (rows_in (row_in stock.slots.rows) stock.log.entries) stock.ends.keys c.self.invariant.sound.numbers c.self.invariant.ends c.len.ensures.ordered
    ∙ ap (λ (s : Stocked). length s.rows) c.self.view_is
