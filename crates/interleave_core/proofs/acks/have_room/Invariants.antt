use Rattle.std.proofs.Common.{take}
use Rattle.interleave_core.specs.Acks.{pairs_of}
use Rattle.interleave_core.proofs.Arriving.{EachHasRoom}
use Rattle.interleave_core.proofs.acks.have_room.Given as goal

abbrev pub invariant-loop-cell : goal.invariant-loop-cell
invariant-loop-cell l = EachHasRoom l.cells (pairs_of l.acks) (take l.cell-index l.cells)
