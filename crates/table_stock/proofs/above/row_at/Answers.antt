use Rattle.std.proofs.Common.{sym}
use Rattle.std.specs.Prelude.{option_copied}
use Rattle.table_stock.specs.Shelves.{row_in}
use Rattle.table_stock.proofs.LogLaws.{row_next}
use Rattle.table_stock.proofs.above.row_at.Goals as goal

pub returns : goal.returns
returns c = row_next (row_in c.args.slots.now.rows) c.args.log.now.entries c.args.index c.in-Some.entry (option_copied c.row_of.result) (sym c.in-Some.ensures) c.row_of.ensures
