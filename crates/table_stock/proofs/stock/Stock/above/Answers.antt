use Rattle.std.proofs.Common.{◌≡◌, ap, ◌∙◌}
use Rattle.std.specs.Prelude.{filter, nat_lt}
use Rattle.table_stock.specs.Shelves.{row_in, rows_in}
use Rattle.table_stock.specs.Stock.{Stocked}
use Rattle.table_stock.proofs.LogLaws.{above_rows}
use Rattle.table_stock.proofs.stock.Stock.above.Goals as goal

pub returns : goal.returns
returns c =
    let stock = c.self.inside in
    c.new.ensures
    ∙ ap (rows_in (row_in stock.slots.rows)) (c.first_above.ensures 1 stock.next c.self.invariant.rising)
    ∙ above_rows (row_in stock.slots.rows) c.args.number stock.log.entries
    ∙ ap (λ (s : Stocked). filter (λ e. nat_lt c.args.number e.1.number) s.rows) c.self.view_is
