use Rattle.std.proofs.Common.{◌≡◌, ◌≤◌, ◌++◌, length}
use Rattle.update_numbers.specs.Numbers.{above}
use Rattle.update_numbers.proofs.numbers.Numbers.above.Given as goal

abbrev pub invariant-loop-number : goal.invariant-loop-number
invariant-loop-number l = (l.found.items ++ l.number-iterator ≡ above l.number l.self.pairs) × (length l.found.items ≤ l.limit)
