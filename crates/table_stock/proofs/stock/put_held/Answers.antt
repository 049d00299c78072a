use Rattle.table_stock.specs.Shelves.{row_in}
use Rattle.table_stock.proofs.ShelfLaws.{put_in_ends}
use Rattle.table_stock.proofs.stock.put_held.Goals as goal

-- the older row's end goes
pub returns-clause-ends : goal.returns-clause-ends
returns-clause-ends c =
    put_in_ends c.args.ends.now.keys c.insert.new.self.keys c.remove.new.self.keys c.args.row c.replace-older.result c.of-end.result c.of.result (row_in c.args.slots.now.rows c.args.slot) c.requires.held.0 c.of-end.ensures.ending c.of.ensures.ending c.requires.held.1 (c.replace-older.ensures.older c.requires.held.0 c.requires.held.1) c.in_ok-insert.ensures.updates.0 c.remove.ensures.updates.0
