use Rattle.std.proofs.Common.{drop}
use Rattle.std.specs.List.{AllByRecursion}
use Rattle.table_cell.specs.Histories.{IsSoundCell}
use Rattle.interleave_core.proofs.cells.are_sound.Given as goal

abbrev pub invariant-loop-cell : goal.invariant-loop-cell
invariant-loop-cell l = AllByRecursion IsSoundCell (drop l.cell-index l.cells) → AllByRecursion IsSoundCell l.cells
