use Rattle.std.proofs.Common.{◌≤◌, arith, length, ◌∙◌}
use Rattle.table_stock.specs.Shelves.{row_in}
use Rattle.table_stock.proofs.LogLaws.{no_rows_past}
use Rattle.table_stock.proofs.above.first_row.Goals as goal

-- all entries from `start` on are stale
pub returns-clause-none : goal.returns-clause-none
returns-clause-none c = c.loop-index.invariant ∙ no_rows_past (row_in c.args.slots.now.rows) c.args.log.now.entries c.loop-index.index (omega (arith, c.len-index-end.ensures, c.loop-index-test.false))
