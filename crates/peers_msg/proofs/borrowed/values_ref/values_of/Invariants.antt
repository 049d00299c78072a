use Rattle.std.proofs.Common.{◌≡◌, drop}
use Rattle.peers_msg.specs.Reading.{values_at}
use Rattle.peers_msg.proofs.ReadingLoops.{with_front}
use Rattle.peers_msg.proofs.borrowed.values_ref.values_of.Given as goal

abbrev pub invariant-loop-entry : goal.invariant-loop-entry
invariant-loop-entry l =
    with_front l.values (values_at (drop l.entry-index l.types) l.rest) ≡ values_at l.types l.bytes
