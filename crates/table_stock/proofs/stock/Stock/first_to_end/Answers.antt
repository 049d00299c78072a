use Rattle.std.proofs.Common.{◌≡◌, ◌-◌, ℕ, ap, subst, sym, ◌∙◌}
use Rattle.table_types.specs.declared.key.Key.{Key}
use Rattle.table_types.specs.Rows.{StoredRow}
use Rattle.table_rows.specs.declared.row_end.RowEnd.{RowEnd}
use Rattle.table_rows.specs.Rows.{IsFirstToEnd}
use Rattle.table_stock.proofs.StockSteps.{key_from, some_from}
use Rattle.table_stock.proofs.stock.Stock.first_to_end.Goals as goal

-- the number of the first end has a row
pub returns-in-Some-next-clause-first : goal.returns-in-Some-next-clause-first
returns-in-Some-next-clause-first c =
    let rows = c.args.self.now.rows in
    let first = c.in-Some.ensures.first in
    let number : c.saturating_sub.result ≡ first.row.number - 1 = c.saturating_sub.ensures ∙ ap (λ (e : RowEnd). e.number - 1) first.is in
    let one = key_from c.args.self.now.next rows c.first_end.ensures.sound.numbers first.key first.row first.there c.saturating_sub.result number (c.in-Some-next.key.now, c.in-Some-next.field-0-1.now) c.next.new.self (sym c.above.ensures ∙ c.in-Some-next.ensures.steps) in
    subst (λ (e : Key × StoredRow). IsFirstToEnd rows e.0) (sym one) first.first

pub returns-in-None-clause-none : goal.returns-in-None-clause-none
returns-in-None-clause-none c =
    let first = c.in-Some.ensures.first in
    let number : c.saturating_sub.result ≡ first.row.number - 1 = c.saturating_sub.ensures ∙ ap (λ (e : RowEnd). e.number - 1) first.is in
    absurd (some_from c.args.self.now.next c.args.self.now.rows c.first_end.ensures.sound.numbers first.key first.row first.there c.saturating_sub.result number (sym c.above.ensures ∙ c.in-None.ensures.steps.0))
