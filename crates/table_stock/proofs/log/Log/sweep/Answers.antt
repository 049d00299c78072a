use Rattle.std.proofs.Common.{refl}
use Rattle.table_stock.specs.Shelves.{row_in}
use Rattle.table_stock.proofs.LogLaws.{nothing_swept, swept_twice}
use Rattle.table_stock.proofs.log.Log.sweep.Goals as goal

pub loop-init : goal.loop-init
loop-init c = nothing_swept (row_in c.args.slots.now.rows) c.args.self.now.entries c.args.self.now.entries refl

pub loop-preserved : goal.loop-preserved
loop-preserved c = swept_twice (row_in c.args.slots.now.rows) c.args.self.now.entries c.loop.self.entries c.sweep_one.new.self.entries c.loop.invariant c.sweep_one.ensures
