use Rattle.std.specs.List.{AllByRecursion}
use Rattle.table_shards.specs.Agreement.{AreEntries, IsEntry}
use Rattle.table_shards.proofs.comparing.has_entries.Given as goal

-- all the seat's receipts are the table's events exactly if those that are left are
abbrev pub invariant-loop-receipt : goal.invariant-loop-receipt
invariant-loop-receipt l =
    (AllByRecursion (IsEntry l.cell) l.receipt-iterator → AreEntries l.cell l.seat)
    × (AreEntries l.cell l.seat → AllByRecursion (IsEntry l.cell) l.receipt-iterator)
