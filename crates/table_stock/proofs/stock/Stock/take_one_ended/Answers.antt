use Rattle.std.proofs.Common.{◌≡◌, ◌+◌, ◌<◌, ◌≤◌, ap, arith, length, true, ◌∙◌}
use Rattle.std.specs.Prelude.{filter}
use Rattle.table_rows.proofs.EndingLaws.{has_ended}
use Rattle.table_rows.specs.Endings.{end_or_last}
use Rattle.table_rows.specs.declared.row_end.RowEnd.{RowEnd}
use Rattle.table_rows.specs.Rows.{is_live}
use Rattle.table_stock.specs.Shelves.{has_end}
use Rattle.table_stock.specs.Stock.{Stocked}
use Rattle.table_stock.proofs.EndLaws.{end_found}
use Rattle.table_stock.proofs.StockSteps.{ended_live, filter_live, one_less}
use Rattle.table_stock.proofs.stock.Stock.take_one_ended.Goals as goal

-- the first row is live, and so all are
pub returns-then-first-milliseconds-clause-none : goal.returns-then-first-milliseconds-clause-none
returns-then-first-milliseconds-clause-none c =
    let later : c.args.now < c.in-Some.first.end = omega (arith, c.if-first-milliseconds.true, c.milliseconds.ensures.value) in
    filter_live c.args.now c.args.self.now.rows (c.in-Some.ensures.first.later c.args.now later)

-- the first row has ended
pub take-requires : goal.take-requires
take-requires c =
    let first = c.in-Some.ensures.first in
    ap (λ (end : RowEnd). has_end c.args.self.now.rows end) first.is ∙ end_found c.args.self.now.rows first.key first.row first.there

pub returns-clause-live : goal.returns-clause-live
returns-clause-live c =
    let first = c.in-Some.ensures.first in
    let rows = c.args.self.now.rows in
    let end : c.in-Some.first.end ≡ end_or_last first.row.ends = ap (λ (e : RowEnd). e.end) first.is in
    let over = has_ended c.args.now first.row c.milliseconds.ensures.most (omega (arith, c.if-first-milliseconds.false, c.milliseconds.ensures.value, end)) in
    ap (λ (s : Stocked). filter (λ e. is_live c.args.now e.1) s.rows) (c.take.ensures first.key first.row first.there first.is) ∙ ended_live c.args.now first.key first.row rows c.first_end.ensures.sound.keys first.there over

pub returns-clause-next : goal.returns-clause-next
returns-clause-next c =
    let first = c.in-Some.ensures.first in
    ap (λ (s : Stocked). s.next) (c.take.ensures first.key first.row first.there first.is)

pub returns-clause-one : goal.returns-clause-one
returns-clause-one c =
    let first = c.in-Some.ensures.first in
    ap (λ (s : Stocked). length s.rows + 1) (c.take.ensures first.key first.row first.there first.is) ∙ one_less first.key first.row c.args.self.now.rows c.first_end.ensures.sound.keys first.there
