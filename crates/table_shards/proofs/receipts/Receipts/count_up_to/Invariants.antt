use Rattle.std.proofs.Common.{◌≡◌, ◌≤◌, ◌-◌, leb, length, true, false}
use Rattle.std.specs.List.{AllWithin}
use Rattle.table_shards.proofs.receipts.Receipts.count_up_to.Given as goal

abbrev pub invariant-loop-low : goal.invariant-loop-low
invariant-loop-low l = record {
  ordered : l.low ≤ l.high;
  within : l.high ≤ length l.self;
  early : AllWithin (λ r. leb r.place l.from ≡ true) l.self 0 l.low;
  late : AllWithin (λ r. leb r.place l.from ≡ false) l.self l.high (length l.self);
}

abbrev pub decreases-loop-low : goal.decreases-loop-low
decreases-loop-low l = l.high - l.low
