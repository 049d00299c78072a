use Rattle.std.proofs.Common.{◌≡◌, ◌≤◌, ◌<◌, ◌||◌, Bool, Some, arith, ap, length, not, true, ◌∙◌}
use Rattle.table_rows.specs.declared.row_end.RowEnd.{RowEnd}
use Rattle.table_rows.specs.Rows.{row_at}
use Rattle.table_stock.specs.NumberedRows.{without}
use Rattle.table_stock.specs.Shelves.{has_end}
use Rattle.table_stock.specs.Stock.{Stocked}
use Rattle.table_stock.proofs.EndLaws.{end_found}
use Rattle.table_stock.proofs.StockSteps.{left_first, other_stays, put_beside, put_instead, was_held, was_new}
use Rattle.table_stock.proofs.stock.Stock.put_full.Goals as goal

-- no more rows than before: the key had one
pub returns-then-len-before-clause-put : goal.returns-then-len-before-clause-put
returns-then-len-before-clause-put c =
    let s = c.args.self.now in
    let no_more : length c.store.new.self.rows ≤ length s.rows = omega (arith, c.len.ensures, c.len-before.ensures, c.if-len-before.true) in
    let held = was_held s c.store.new.self c.args.key c.args.row c.in_ok-store.ensures.stored no_more in
    (s.rows, put_beside s c.store.new.self c.args.key c.args.row c.in_ok-store.ensures.stored true (ap (λ (b : Bool). b || not true) held), c.in_ok-store.ensures.stored)

-- the end of the first to end is still there
pub take-requires : goal.take-requires
take-requires c =
    let s = c.args.self.now in
    let first = c.in-Some.ensures.first in
    let more : length s.rows < length c.store.new.self.rows = omega (arith, c.len.ensures, c.len-before.ensures, c.if-len-before.false) in
    let new = was_new s c.store.new.self c.args.key c.args.row c.in_ok-store.ensures.stored more in
    let there : row_at first.key c.store.new.self.rows ≡ Some first.row = ap (λ (t : Stocked). row_at first.key t.rows) c.in_ok-store.ensures.stored ∙ other_stays s.rows c.args.key c.args.row first.key first.row new first.there in
    ap (λ (end : RowEnd). has_end c.store.new.self.rows end) first.is ∙ end_found c.store.new.self.rows first.key first.row there

-- the first to end is removed after the other one was stored
pub returns-in-Some-clause-put : goal.returns-in-Some-clause-put
returns-in-Some-clause-put c =
    let s = c.args.self.now in
    let first = c.in-Some.ensures.first in
    let more : length s.rows < length c.store.new.self.rows = omega (arith, c.len.ensures, c.len-before.ensures, c.if-len-before.false) in
    let new = was_new s c.store.new.self c.args.key c.args.row c.in_ok-store.ensures.stored more in
    let there : row_at first.key c.store.new.self.rows ≡ Some first.row = ap (λ (t : Stocked). row_at first.key t.rows) c.in_ok-store.ensures.stored ∙ other_stays s.rows c.args.key c.args.row first.key first.row new first.there in (
      without first.key s.rows,
      left_first c.args.key first.key s.rows new first.first,
      put_instead s c.store.new.self c.args.key c.args.row c.in_ok-store.ensures.stored c.take.new.self first.key new first.first (c.take.ensures first.key first.row there first.is),
    )
