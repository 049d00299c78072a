use Rattle.std.proofs.Common.{take}
use Rattle.interleave_core.specs.Acks.{AreTaught, pairs_of}
use Rattle.interleave_core.proofs.acks.are_taught.Given as goal

abbrev pub invariant-loop-ack : goal.invariant-loop-ack
invariant-loop-ack l = AreTaught l.session l.cells (pairs_of (take l.ack-index l.acks))
