use Rattle.std.proofs.Common.{ap, sym, ◌∙◌}
use Rattle.table_stock.specs.Shelves.{row_in}
use Rattle.table_stock.specs.Slots.{RowsInSlots, row_of}
use Rattle.table_stock.proofs.SlotLaws.{row_found, row_from}
use Rattle.table_stock.proofs.slots.Slots.get.Goals as goal

pub returns-in_default : goal.returns-in_default
returns-in_default c =
    ap row_from c.in_default.ensures
    ∙ sym (row_found c.self.inside.slots.items c.args.slot)
    ∙ ap (λ (s : RowsInSlots). row_in s.rows c.args.slot) c.self.view_is

pub returns-in-Taken : goal.returns-in-Taken
returns-in-Taken c =
    sym (ap row_of c.in-Taken.is)
    ∙ ap row_from c.in-Some.ensures
    ∙ sym (row_found c.self.inside.slots.items c.args.slot)
    ∙ ap (λ (s : RowsInSlots). row_in s.rows c.args.slot) c.self.view_is

pub returns-in-Vacant : goal.returns-in-Vacant
returns-in-Vacant c =
    sym (ap row_of c.in-Vacant.is)
    ∙ ap row_from c.in-Some.ensures
    ∙ sym (row_found c.self.inside.slots.items c.args.slot)
    ∙ ap (λ (s : RowsInSlots). row_in s.rows c.args.slot) c.self.view_is
