use Rattle.std.proofs.Common.{◌≡◌, ℕ, ◌+◌, ◌<◌, ◌≤◌, length, drop, slice_index}
use Rattle.table_shards.specs.Receipts.{all_receipts, times}
use Rattle.table_shards.proofs.counts.counts_after.Given as goal

abbrev pub invariant-loop-seat : goal.invariant-loop-seat
invariant-loop-seat l = record {
  long : length l.counts ≡ 512;
  counted : (index : ℕ) → index < 512 → slice_index l.counts index + times (l.from + 1 + index) (all_receipts l.table (drop l.seat-index l.seats)) ≡ times (l.from + 1 + index) (all_receipts l.table l.seats);
  few : (index : ℕ) → index < 512 → slice_index l.counts index ≤ l.seat-index;
}
