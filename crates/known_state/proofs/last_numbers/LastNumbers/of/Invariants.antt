use Rattle.std.proofs.Common.{◌≡◌, take}
use Rattle.known_state.specs.Known.{last_numbers_put}
use Rattle.known_state.proofs.last_numbers.LastNumbers.of.Given as goal

abbrev pub invariant-loop-last : goal.invariant-loop-last
invariant-loop-last l = l.made ≡ last_numbers_put (take l.last-index l.last_numbers)
