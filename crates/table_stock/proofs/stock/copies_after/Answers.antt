use Rattle.std.proofs.Common.{◌≡◌, ◌<◌, ◌≤◌, ◌+◌, arith, length}
use Rattle.table_stock.specs.Shelves.{row_in}
use Rattle.table_stock.proofs.ListLaws.{listed_on, one_longer}
use Rattle.table_stock.proofs.stock.copies_after.Goals as goal

pub loop-slot-preserved : goal.loop-slot-preserved
loop-slot-preserved c =
    let at = row_in c.args.slots.now.rows in
    let done = c.loop-slot.list.items in
    let new = c.push_copy.new.list.items in
    let longer = one_longer done new (at c.in-Some-2.slot.now) c.in_ok-push_copy.ensures in
    let below : length done < c.args.most = omega (arith, c.if-len-most.false, c.len.ensures, c.loop-slot.list.ok.0, c.loop-slot.invariant.1) in (
      listed_on at done new _ c.loop-slot.slot-iterator c.next.new.self (c.in-Some-2.field-0-0.now, c.in-Some-2.slot.now) c.in-Some-2.ensures.steps c.in_ok-push_copy.ensures c.loop-slot.invariant.0,
      omega (arith, longer, below),
    )
