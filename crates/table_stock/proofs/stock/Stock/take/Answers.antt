use Rattle.std.proofs.Common.{◌≡◌, Some, ap, subst, sym, true}
use Rattle.table_stock.specs.Shelves.{has_end, row_in, rows_in}
use Rattle.table_rows.specs.Rows.{row_at}
use Rattle.table_stock.specs.Stock.{Stocked, stocked}
use Rattle.table_stock.proofs.CallLaws.{taken_all, taken_rows}
use Rattle.table_stock.proofs.EndLaws.{ended_by}
use Rattle.table_stock.proofs.stock.Stock.take.Goals as goal

pub take_from-requires : goal.take_from-requires
take_from-requires c = (c.self.inside.next, c.self.invariant.rising)

pub invariant_of-self : goal.invariant_of-self
invariant_of-self c =
    let stock = c.self.inside in
    let (key, row, there, is) = ended_by (rows_in (row_in stock.slots.rows) stock.log.entries) c.self.invariant.sound.keys c.args.end (subst (λ (s : Stocked). has_end s.rows c.args.end ≡ true) (sym c.self.view_is) c.requires) in
    taken_all stock.keys.entries stock.slots.rows stock.log.entries stock.next stock.ends.keys c.self.invariant c.args.end key row there is c.take_from.new.keys.entries c.take_from.new.slots.rows c.take_from.ensures c.remove.new.self.keys c.remove.ensures.updates.0

pub returns : goal.returns
returns c = λ key row there is.
    let stock = c.self.inside in
    rw (← c.self.view_is)
    (ap (stocked stock.next)
    (taken_rows stock.keys.entries stock.slots.rows stock.log.entries stock.next stock.ends.keys c.self.invariant c.args.end key row (subst (λ (s : Stocked). row_at key s.rows ≡ Some row) (sym c.self.view_is) there) is c.take_from.new.keys.entries c.take_from.new.slots.rows c.take_from.ensures))
