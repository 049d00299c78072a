use Rattle.std.proofs.Common.{◌<◌, take}
use Rattle.std.specs.List.{AllByRecursion}
use Rattle.table_shards.specs.Receipts.{PlacesRise, all_receipts, receipts_of, seen_of}
use Rattle.table_shards.proofs.counts.are_of_round.Given as goal

abbrev pub invariant-loop-seat : goal.invariant-loop-seat
invariant-loop-seat l = record {
  after : AllByRecursion (λ r. l.from < r.place) (all_receipts l.table (take l.seat-index l.seats));
  rising : AllByRecursion (λ s. PlacesRise 0 (receipts_of l.table s) (seen_of l.table s)) (take l.seat-index l.seats);
}
