use Rattle.std.proofs.Common.{ℕ, ◌+◌, List, ap, sym, subst, ◌∙◌, refl, zero-add, arith}
use Rattle.std.proofs.lemmas.List.{get_or-replicate}
use Rattle.table_shards.specs.Receipts.{ReceiptState, SeatState, PlacesRise, all_receipts, receipts_of, seen_of, times}
use Rattle.table_shards.proofs.CountLaws.{times_most}
use Rattle.table_shards.proofs.ReceiptLaws.{times_next}
use Rattle.table_shards.proofs.counts.counts_after.Goals as goal

pub loop-seat-init : goal.loop-seat-init
loop-seat-init c = record {
  long = refl;
  counted = λ index below. let place = c.args.from + 1 + index in ap (λ n. n + times place (all_receipts c.args.table c.args.seats.now)) (get_or-replicate {A = ℕ} 512 index 0 0 below) ∙ zero-add (times place (all_receipts c.args.table c.args.seats.now));
  few = λ index below. omega (arith, get_or-replicate {A = ℕ} 512 index 0 0 below);
}

pub later_than-requires : goal.later_than-requires
later_than-requires c =
    let seat : SeatState = c.seat-item.result in
    let seen = seen_of c.args.table seat in
    (seen, subst (λ (rs : List ReceiptState). PlacesRise 0 rs seen) (sym c.receipts.ensures.receipts) c.receipts.ensures.rising)

pub loop-seat-preserved : goal.loop-seat-preserved
loop-seat-preserved c =
    let seat : SeatState = c.seat-item.result in
    record {
      long = omega (arith, c.loop-seat.invariant.long);
      counted = λ index below.
          let place = c.args.from + 1 + index in
          let same = c.later_than.ensures.times place (omega arith) ∙ ap (λ (rs : List ReceiptState). times place rs) c.receipts.ensures.receipts in
          omega (arith, c.loop-seat.invariant.counted index below, c.add_places.ensures index below, same, times_next place c.args.table c.args.seats.now c.loop-seat.seat-index seat c.loop-seat-test.true c.seat-item.is);
      few = λ index below.
          let place = c.args.from + 1 + index in
          let same = c.later_than.ensures.times place (omega arith) ∙ ap (λ (rs : List ReceiptState). times place rs) c.receipts.ensures.receipts in
          let most = times_most place 0 (seen_of c.args.table seat) (receipts_of c.args.table seat) c.receipts.ensures.rising in
          omega (arith, c.loop-seat.invariant.few index below, c.add_places.ensures index below, same, most);
    }
