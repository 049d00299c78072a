use Rattle.std.proofs.Common.{◌≡◌, Option, ap, sym, true, ◌∙◌, ℕ}
use Rattle.std.specs.Prelude.{is_some}
use Rattle.table_stock.specs.Slots.{RowsInSlots, link_in}
use Rattle.table_stock.proofs.SlotLaws.{has_link}
use Rattle.table_stock.proofs.slots.Slots.make_room.Goals as goal

-- the slot that was vacated last is vacant
pub returns-then-is_some-clause-room : goal.returns-then-is_some-clause-room
returns-then-is_some-clause-room c =
    let linked : is_some (link_in c.self.inside.slots.items c.self.inside.vacated) ≡ true = sym (ap (λ (o : Option ℕ). is_some o) c.link_of.ensures) ∙ sym c.is_some.ensures ∙ c.if-is_some.true in
    sym (ap (λ (s : RowsInSlots). s.has_room) c.self.view_is) ∙ has_link (is_some (link_in c.self.inside.slots.items c.self.inside.vacated)) _ linked
