use Rattle.std.proofs.Common.{◌++◌, length}
use Rattle.interleave_core.proofs.Arriving.{AreReadSoFar}
use Rattle.interleave_core.proofs.acks.read_acks.Given as goal

abbrev pub invariant-loop-acks : goal.invariant-loop-acks
invariant-loop-acks l = AreReadSoFar l.roster (l.unread ++ l.piece) l.acks.items l.decoder

abbrev pub decreases-loop-acks : goal.decreases-loop-acks
decreases-loop-acks l = length l.decoder.unread
