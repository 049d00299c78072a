use Rattle.std.proofs.Common.{◌≡◌, ◌≤◌, ◌++◌, length, drop}
use Rattle.known_state.specs.Plans.{names_in}
use Rattle.teach_writer.proofs.held_names.names_held.Given as goal

abbrev pub invariant-loop-index : goal.invariant-loop-index
invariant-loop-index l = record {
  names : l.names.items ++ names_in (drop l.index l.slots) ≡ names_in l.slots;
  few : length l.names.items ≤ l.index;
}
