use Rattle.std.proofs.Common.{◌≡◌, Some, ap, sym, ◌∙◌}
use Rattle.table_types.specs.declared.key.Key.{Key}
use Rattle.table_types.specs.Rows.{StoredRow}
use Rattle.table_stock.specs.declared.slots.Slot.TheVariants.{Taken}
use Rattle.table_stock.specs.Shelves.{row_in}
use Rattle.table_stock.specs.Slots.{RowsInSlots, row_of}
use Rattle.table_stock.proofs.SlotLaws.{put_in_slot, same_taken, taken_row, within_slot}
use Rattle.table_stock.proofs.slots.Slots.replace.Goals as goal

pub replace-requires : goal.replace-requires
replace-requires c = within_slot c.self.inside.slots.items c.args.slot c.requires.0 (ap (λ (s : RowsInSlots). row_in s.rows c.args.slot) c.self.view_is ∙ c.requires.1)

pub returns-clause-older : goal.returns-clause-older
returns-clause-older c = λ e there.
    let held = taken_row c.self.inside.slots.items c.args.slot e (ap (λ (s : RowsInSlots). row_in s.rows c.args.slot) c.self.view_is ∙ there) c.replace.result c.replace.ensures.older in
    ap (λ (f : Key × StoredRow). f.1) (same_taken (c.in-Taken.field-0-0, c.in-Taken.older) e (sym c.in-Taken.is ∙ held))

pub returns-clause-put : goal.returns-clause-put
returns-clause-put c =
    rw (← c.self.view_is) (put_in_slot c.self.inside.slots.items c.replace.new.self.items c.args.slot c.requires.0 (Taken (c.args.key, c.args.row)) (ap (λ (s : RowsInSlots). row_in s.rows c.args.slot) c.self.view_is ∙ c.requires.1) c.replace.ensures.put)
