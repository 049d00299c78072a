use Rattle.std.proofs.Common.{◌≡◌, ◌++◌}
use Rattle.known_state.proofs.last_numbers.LastNumbers.copy.Given as goal

abbrev pub invariant-loop-id : goal.invariant-loop-id
invariant-loop-id l = l.copy ++ l.id-iterator ≡ l.self
