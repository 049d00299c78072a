use Rattle.std.proofs.Common.{◌≡◌, ◌++◌}
use Rattle.known_state.specs.LastNumbers.{own_last_numbers}
use Rattle.known_state.proofs.last_numbers.LastNumbers.own_part.Given as goal

abbrev pub invariant-loop-id : goal.invariant-loop-id
invariant-loop-id l = l.part ++ own_last_numbers l.roster l.received l.id-iterator ≡ own_last_numbers l.roster l.received l.self
