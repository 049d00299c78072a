use Rattle.std.proofs.Common.{◌≡◌, drop}
use Rattle.known_state.specs.Known.{repeats_last}
use Rattle.known_state.proofs.parts.repeats_last.Given as goal

abbrev pub invariant-loop-index : goal.invariant-loop-index
invariant-loop-index l = repeats_last (drop l.index l.last_numbers) ≡ repeats_last l.last_numbers
