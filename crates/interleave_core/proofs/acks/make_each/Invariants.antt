use Rattle.interleave_core.proofs.Arriving.{AreMadeSoFar}
use Rattle.interleave_core.proofs.acks.make_each.Given as goal

abbrev pub invariant-loop-ack : goal.invariant-loop-ack
invariant-loop-ack l = AreMadeSoFar l.session l.acks l.ack-index l.fn.cells.items l.cells.items
