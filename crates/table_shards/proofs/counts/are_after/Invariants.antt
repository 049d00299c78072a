use Rattle.std.proofs.Common.{◌<◌}
use Rattle.std.specs.List.{AllByRecursion}
use Rattle.table_shards.proofs.counts.are_after.Given as goal

-- all the receipts are of places after `from` exactly if those that are left are
abbrev pub invariant-loop-receipt : goal.invariant-loop-receipt
invariant-loop-receipt l =
    (AllByRecursion (λ r. l.from < r.place) l.receipt-iterator → AllByRecursion (λ r. l.from < r.place) l.fn.receipts)
    × (AllByRecursion (λ r. l.from < r.place) l.fn.receipts → AllByRecursion (λ r. l.from < r.place) l.receipt-iterator)
