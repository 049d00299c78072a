use Rattle.std.proofs.Common.{◌≡◌, ℕ, ◌+◌, drop, slice_index}
use Rattle.known_state.specs.Plans.{kept_from, kept_to}
use Rattle.price_checker.proofs.room.kept_ends.Given as goal

abbrev pub invariant-loop-link : goal.invariant-loop-link
invariant-loop-link l = record {
  begin : (place : ℕ) → slice_index l.begin place + kept_from (drop l.link-index l.links) place ≡ kept_from l.links place;
  end : (place : ℕ) → slice_index l.end place + kept_to (drop l.link-index l.links) place ≡ kept_to l.links place;
}
