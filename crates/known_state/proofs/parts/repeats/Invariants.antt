use Rattle.std.proofs.Common.{◌≡◌, drop}
use Rattle.known_state.specs.Known.{repeats}
use Rattle.known_state.proofs.parts.repeats.Given as goal

abbrev pub invariant-loop-index : goal.invariant-loop-index
invariant-loop-index l = repeats (drop l.index l.ids) ≡ repeats l.ids
