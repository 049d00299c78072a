use Rattle.std.specs.Vec.Iter.{into_iter_items, into_iter_len}
use Rattle.text_commands.proofs.Printing.{cells_made}
use Rattle.text_commands.proofs.world_running.cells_of.Goals as goal

pub returns : goal.returns
returns c =
    let left = c.loop-table.table-iterator in
    cells_made c.args.tables.items (into_iter_items left) (into_iter_len left) c.loop-table.cells.items c.loop-table.invariant.count
    c.in-None.ensures.steps.0 c.loop-table.invariant.made
