use Rattle.std.proofs.Common.{◌≡◌, drop}
use Rattle.std.specs.List.{list_all}
use Rattle.known_state.specs.Known.{is_in}
use Rattle.known_state.proofs.parts.all_last_numbers_held.Given as goal

abbrev pub invariant-loop-last : goal.invariant-loop-last
invariant-loop-last l =
    list_all (λ last. is_in last.0 l.defined) (drop l.last-index l.last_numbers) ≡ list_all (λ last. is_in last.0 l.defined) l.last_numbers
