use Rattle.std.proofs.Common.{◌<◌, sym, subst}
use Rattle.std.specs.List.{AllByRecursion}
use Rattle.table_shards.specs.Receipts.{ReceiptState, SeatState, PlacesRise, receipts_of, seen_of}
use Rattle.table_shards.proofs.AllLaws.{all_more}
use Rattle.table_shards.proofs.ReceiptLaws.{receipts_more, receipts_of_one}
use Rattle.table_shards.proofs.counts.are_of_round.Goals as goal

pub loop-seat-preserved : goal.loop-seat-preserved
loop-seat-preserved c =
    let seat : SeatState = c.seat-item.result in
    let after = subst (AllByRecursion (λ (r : ReceiptState). c.args.from < r.place)) c.receipts.ensures.receipts c.if-not-are_after.ensures in
    record {
      after = receipts_more (λ (r : ReceiptState). c.args.from < r.place) c.args.table c.args.seats.now c.loop-seat.seat-index seat c.loop-seat-test.true c.seat-item.is after c.loop-seat.invariant.after;
      rising = all_more (λ (s : SeatState). PlacesRise 0 (receipts_of c.args.table s) (seen_of c.args.table s)) c.args.seats.now c.loop-seat.seat-index seat c.loop-seat-test.true c.seat-item.is c.receipts.ensures.rising c.loop-seat.invariant.rising;
    }

pub returns-then-not-are_after-clause-after : goal.returns-then-not-are_after-clause-after
returns-then-not-are_after-clause-after c = λ all.
    let seat : SeatState = c.seat-item.result in
    let own = receipts_of_one (λ (r : ReceiptState). c.args.from < r.place) c.args.table c.args.seats.now c.loop-seat.seat-index seat c.loop-seat-test.true all in
    let is = subst (λ (s : SeatState). AllByRecursion (λ (r : ReceiptState). c.args.from < r.place) (receipts_of c.args.table s)) (sym c.seat-item.is) own in
    c.if-not-are_after.ensures (subst (AllByRecursion (λ (r : ReceiptState). c.args.from < r.place)) (sym c.receipts.ensures.receipts) is)
