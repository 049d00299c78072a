use Rattle.std.proofs.Common.{◌≡◌, ◌+◌, ◌≤◌, drop}
use Rattle.peers_msg.specs.Borrowed.{value_count}
use Rattle.peers_msg.proofs.borrowed.values_ref.value_count.Given as goal

abbrev pub invariant-loop-entry : goal.invariant-loop-entry
invariant-loop-entry l =
    record {
      within : l.count ≤ l.entry-index;
      counted : l.count + value_count (drop l.entry-index l.types) ≡ value_count l.types;
    }
