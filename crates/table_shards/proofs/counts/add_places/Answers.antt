use Rattle.std.proofs.Common.{◌≡◌, ℕ, ◌+◌, ◌-◌, List, refl, subst, arith, length-set, ◌∙◌}
use Rattle.table_shards.specs.Counts.{RiseAfter}
use Rattle.table_shards.specs.Receipts.{ReceiptState}
use Rattle.table_shards.proofs.CountLaws.{AreCountedBut, earlier, has_room, none_left, one_counted}
use Rattle.table_shards.proofs.counts.add_places.Goals as goal

pub overflow_sub-index : goal.overflow_sub-index
overflow_sub-index c =
    let rise = subst (RiseAfter c.args.from) c.in-Some.ensures.steps c.loop-receipt.invariant.rising in
    omega (arith, rise.1.0, c.place.ensures)

pub overflow_add-counts : goal.overflow_add-counts
overflow_add-counts c =
    let receipt = c.in-Some.receipt.now in
    let counts = c.loop-receipt.counts in
    let index : ℕ = c.place.result - c.args.from - 1 in
    let rise = subst (RiseAfter c.args.from) c.in-Some.ensures.steps c.loop-receipt.invariant.rising in
    let counted = subst (λ (left : List ReceiptState). AreCountedBut c.args.from left c.args.receipts c.args.counts.now counts) c.in-Some.ensures.steps c.loop-receipt.invariant.counted in
    let at : receipt.place ≡ c.args.from + 1 + index = omega (arith, rise.1.0, c.place.ensures) in
    let most = has_room c.args.from c.requires.rising.0 c.args.counts.now counts c.args.receipts c.next.new.self index receipt c.requires.rising.1 c.if-index.false at counted in
    omega (arith, most, c.requires.room index c.if-index.false)

pub returns-then-index : goal.returns-then-index
returns-then-index c =
    let receipt = c.in-Some.receipt.now in
    let counts = c.loop-receipt.counts in
    let rise = subst (RiseAfter c.args.from) c.in-Some.ensures.steps c.loop-receipt.invariant.rising in
    let counted = subst (λ (left : List ReceiptState). AreCountedBut c.args.from left c.args.receipts c.args.counts.now counts) c.in-Some.ensures.steps c.loop-receipt.invariant.counted in
    none_left c.args.from rise.0 c.args.counts.now counts c.args.receipts c.next.new.self receipt rise.1.1 (omega (arith, rise.1.0, c.place.ensures, c.if-index.true)) counted

pub loop-receipt-preserved : goal.loop-receipt-preserved
loop-receipt-preserved c =
    let receipt = c.in-Some.receipt.now in
    let counts = c.loop-receipt.counts in
    let index : ℕ = c.place.result - c.args.from - 1 in
    let rise = subst (RiseAfter c.args.from) c.in-Some.ensures.steps c.loop-receipt.invariant.rising in
    let counted = subst (λ (left : List ReceiptState). AreCountedBut c.args.from left c.args.receipts c.args.counts.now counts) c.in-Some.ensures.steps c.loop-receipt.invariant.counted in
    let at : receipt.place ≡ c.args.from + 1 + index = omega (arith, rise.1.0, c.place.ensures) in
    record {
      long = length-set counts index _ ∙ c.loop-receipt.invariant.long;
      counted = one_counted c.args.from c.args.counts.now counts c.args.receipts c.next.new.self index _ receipt c.loop-receipt.invariant.long c.if-index.false at refl counted;
      rising = (rise.0, earlier c.args.from receipt.place rise.0 c.next.new.self (omega (arith, rise.1.0)) rise.1.1);
    }
