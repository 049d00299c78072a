use Rattle.std.proofs.Common.{◌≡◌, drop}
use Rattle.known_state.specs.Known.{has_last}
use Rattle.known_state.proofs.parts.has_last.Given as goal

abbrev pub invariant-loop-last : goal.invariant-loop-last
invariant-loop-last l = has_last l.id (drop l.last-index l.last_numbers) ≡ has_last l.id l.last_numbers
