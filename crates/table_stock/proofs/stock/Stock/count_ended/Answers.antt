use Rattle.std.proofs.Common.{◌≡◌, ◌∙◌, ℕ, List, length, ap, sym, rules}
use Rattle.std.specs.Prelude.{filter}
use Rattle.table_rows.specs.declared.row_end.RowEnd.{RowEnd}
use Rattle.table_stock.specs.Shelves.{row_in, rows_in}
use Rattle.table_stock.proofs.EndCounts.{drained, ended_count, is_over}
use Rattle.table_stock.proofs.stock.Stock.count_ended.Goals as goal

pub returns : goal.returns
returns c =
    let stock = c.self.inside in
    let ends = stock.ends.keys in
    let (gone, drains, counted) = c.count.ensures.ran in
    let between : c.range.result ≡ filter (is_over c.milliseconds.result) ends = c.range.ensures.between (search rules) in
    let over : c.range.result ≡ filter (is_over c.args.now) ends = between ∙ ap (λ (n : ℕ). filter (is_over n) ends) c.milliseconds.ensures.value in
    rw (← c.self.view_is)
    (counted ∙ sym (drained _ c.range.result gone drains) ∙ ap (λ (l : List RowEnd). length l) over
    ∙ ended_count c.args.now stock.next (rows_in (row_in stock.slots.rows) stock.log.entries) ends c.milliseconds.ensures.most c.self.invariant.sound.numbers c.self.invariant.ends c.range.ensures.ordered)
