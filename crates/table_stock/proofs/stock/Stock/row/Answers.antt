use Rattle.std.proofs.Common.{◌≡◌, None, Option, subst, sym}
use Rattle.table_types.specs.Rows.{StoredRow}
use Rattle.table_rows.specs.Rows.{row_at}
use Rattle.table_stock.specs.Shelves.{row_in}
use Rattle.table_stock.specs.Stock.{Stocked}
use Rattle.table_stock.proofs.ShelfLaws.{no_slot}
use Rattle.table_stock.proofs.stock.Stock.row.Goals as goal

-- a key without a slot has no row
pub returns-in_default : goal.returns-in_default
returns-in_default c =
    let stock = c.self.inside in
    subst (λ (s : Stocked). ◌≡◌ {A = Option StoredRow} None (row_at c.args.key.now s.rows)) c.self.view_is
    (sym (no_slot stock.keys.entries (row_in stock.slots.rows) stock.log.entries stock.next stock.ends.keys c.self.invariant c.args.key.now (sym c.in_default.ensures.value)))
