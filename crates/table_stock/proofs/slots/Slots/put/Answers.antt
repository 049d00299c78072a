use Rattle.std.proofs.Common.{◌≡◌, Option, ap, arith, false, length, sym, true, ◌∙◌, ℕ}
use Rattle.std.specs.Prelude.{is_some}
use Rattle.table_stock.specs.Slots.{RowsInSlots, link_in}
use Rattle.table_stock.proofs.SlotLaws.{link_within, put_new_slot, put_vacated, room_for_new}
use Rattle.table_stock.proofs.slots.Slots.put.Goals as goal

-- no slot is vacant, so there is room for a new one
pub push_reserved-requires : goal.push_reserved-requires
push_reserved-requires c =
    let slots = c.self.inside.slots in
    (room_for_new (is_some (link_in slots.items c.self.inside.vacated)) slots.has_room (length slots.items) (sym (ap (λ (o : Option ℕ). is_some o) c.in_default.ensures)) (ap (λ (s : RowsInSlots). s.has_room) c.self.view_is ∙ c.requires)).0

pub returns-in_default : goal.returns-in_default
returns-in_default c =
    let slots = c.self.inside.slots in
    rw (← c.self.view_is) (put_new_slot slots.items c.push_reserved.new.self.items c.self.inside.vacated (c.args.key, c.args.row) c.in_default.ensures c.push_reserved.ensures)

pub replace-requires : goal.replace-requires
replace-requires c = link_within c.self.inside.slots.items c.self.inside.vacated c.in-Some.link c.in-Some.ensures

pub returns : goal.returns
returns c =
    let slots = c.self.inside.slots in
    rw (← c.self.view_is) (put_vacated slots.items c.replace.new.self.items c.self.inside.vacated c.in-Some.link (c.args.key, c.args.row) c.in-Some.ensures c.replace.ensures.put)
