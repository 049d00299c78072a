use Rattle.std.proofs.Common.{◌≡◌, Some, None, inl, sym}
use Rattle.table_stock.specs.Shelves.{slot_of}
use Rattle.table_stock.proofs.ShelfLaws.{held_named, put_ends_new, put_in_new}
use Rattle.table_stock.proofs.stock.put_row.Goals as goal

pub returns-in-Some-clause-put : goal.returns-in-Some-clause-put
returns-in-Some-clause-put c =
    let slot = c.in-Some.field-0.now in
    let held : slot_of c.args.key c.args.keys.now.entries ≡ Some slot = sym c.in-Some.ensures.value in
    record { named = held_named c.args.keys.now.entries c.args.key slot held; free = inl held; put = c.in_ok-put_held.ensures.put }

pub returns-clause-put : goal.returns-clause-put
returns-clause-put c =
    put_in_new c.put_new.result c.args.key c.args.row c.args.keys.now.entries c.put_new.new.keys.entries c.args.slots.now.rows c.put_new.new.slots.rows (sym c.in_default.ensures.value) c.put_new.ensures.vacant c.put_new.ensures.named c.put_new.ensures.put

pub returns-clause-ends : goal.returns-clause-ends
returns-clause-ends c = put_ends_new c.put_new.result c.args.row c.args.slots.now.rows c.args.ends.now.keys c.put_new.new.ends.keys c.put_new.ensures.vacant c.put_new.ensures.ends
