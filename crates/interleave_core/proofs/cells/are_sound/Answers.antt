use Rattle.interleave_core.proofs.Running.{all_further}
use Rattle.table_cell.specs.Histories.{IsSoundCell}
use Rattle.interleave_core.proofs.cells.are_sound.Goals as goal

pub loop-cell-preserved : goal.loop-cell-preserved
loop-cell-preserved c =
    all_further IsSoundCell c.args.cells.now c.loop-cell.cell-index c.cell-item.result c.loop-cell-test.true c.cell-item.is c.events-events.ensures.sound c.loop-cell.invariant
