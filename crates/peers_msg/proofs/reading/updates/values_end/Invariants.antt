use Rattle.std.proofs.Common.{◌≡◌, List, drop}
use Rattle.table_types.specs.declared.update.Value.{Value}
use Rattle.peers_msg.specs.Reading.{values_at}
use Rattle.peers_msg.proofs.ReadingLoops.{with_front}
use Rattle.peers_msg.proofs.reading.updates.values_end.Given as goal

abbrev pub invariant-loop-entry : goal.invariant-loop-entry
invariant-loop-entry l =
    (front : List Value) × (with_front front (values_at (drop l.entry-index l.types) l.rest) ≡ values_at l.types l.bytes)
