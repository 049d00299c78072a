use Rattle.std.proofs.Common.{◌≡◌, ◌+◌, drop}
use Rattle.peers_msg.specs.Spelling.{bits_of}
use Rattle.peers_msg.proofs.sizes.bits.Given as goal

abbrev pub invariant-loop-entry : goal.invariant-loop-entry
invariant-loop-entry l = l.bits + bits_of (drop l.entry-index l.types) ≡ bits_of l.types
