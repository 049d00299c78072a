use Rattle.std.proofs.Common.{◌≡◌, ap, not, ◌∙◌}
use Rattle.table_stock.specs.declared.slots.Slot.TheVariants.{Vacant}
use Rattle.table_stock.specs.Shelves.{row_in}
use Rattle.table_stock.specs.Slots.{RowsInSlots, row_of}
use Rattle.table_stock.proofs.SlotLaws.{none_lent, nothing_taken, put_in_slot, some_lent, within_slot}
use Rattle.table_stock.proofs.slots.Slots.take.Goals as goal

pub returns-then-is_none : goal.returns-then-is_none
returns-then-is_none c = nothing_taken c.args.self.now.rows c.args.slot (none_lent c.get.result (row_in c.args.self.now.rows c.args.slot) (c.is_none.ensures ∙ ap not c.if-is_none.true) c.get.ensures)

-- there is a row
pub replace-requires : goal.replace-requires
replace-requires c =
    let (e, there) = some_lent c.get.result (row_in c.args.self.now.rows c.args.slot) (c.is_none.ensures ∙ ap not c.if-is_none.false) c.get.ensures in
    within_slot c.self.inside.slots.items c.args.slot e (ap (λ (s : RowsInSlots). row_in s.rows c.args.slot) c.self.view_is ∙ there)

pub returns : goal.returns
returns c =
    let (e, there) = some_lent c.get.result (row_in c.args.self.now.rows c.args.slot) (c.is_none.ensures ∙ ap not c.if-is_none.false) c.get.ensures in
    rw (← c.self.view_is) (put_in_slot c.self.inside.slots.items c.replace.new.self.items c.args.slot e (Vacant c.self.inside.vacated) (ap (λ (s : RowsInSlots). row_in s.rows c.args.slot) c.self.view_is ∙ there) c.replace.ensures.put)
