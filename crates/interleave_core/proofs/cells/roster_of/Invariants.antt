use Rattle.std.proofs.Common.{◌≡◌, ◌++◌, drop}
use Rattle.interleave_core.specs.Worlds.{roster_of}
use Rattle.interleave_core.proofs.cells.roster_of.Given as goal

abbrev pub invariant-loop-cell : goal.invariant-loop-cell
invariant-loop-cell l = l.tables.items ++ roster_of (drop l.cell-index l.cells) ≡ roster_of l.cells
