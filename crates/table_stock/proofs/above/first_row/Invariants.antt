use Rattle.std.proofs.Common.{◌≡◌, drop}
use Rattle.table_stock.specs.Shelves.{row_in, rows_in}
use Rattle.table_stock.proofs.above.first_row.Given as goal

-- the entries so far are stale
abbrev pub invariant-loop-index : goal.invariant-loop-index
invariant-loop-index l = rows_in (row_in l.slots.rows) (drop l.start l.log.entries) ≡ rows_in (row_in l.slots.rows) (drop l.index l.log.entries)
