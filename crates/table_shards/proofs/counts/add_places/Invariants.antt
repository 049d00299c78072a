use Rattle.std.proofs.Common.{◌≡◌, length}
use Rattle.table_shards.specs.Counts.{RiseAfter}
use Rattle.table_shards.proofs.CountLaws.{AreCountedBut}
use Rattle.table_shards.proofs.counts.add_places.Given as goal

abbrev pub invariant-loop-receipt : goal.invariant-loop-receipt
invariant-loop-receipt l = record {
  long : length l.counts ≡ 512;
  counted : AreCountedBut l.from l.receipt-iterator l.fn.receipts l.fn.counts l.counts;
  rising : RiseAfter l.from l.receipt-iterator;
}
