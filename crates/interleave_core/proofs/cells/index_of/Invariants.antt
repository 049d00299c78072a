use Rattle.std.proofs.Common.{◌≡◌, None, take}
use Rattle.interleave_core.specs.Worlds.{cell_at}
use Rattle.interleave_core.proofs.cells.index_of.Given as goal

abbrev pub invariant-loop-index : goal.invariant-loop-index
invariant-loop-index l = cell_at l.table (take l.index l.cells) ≡ None
