use Rattle.std.proofs.Common.{◌≡◌, ℕ, ◌≤◌, length, take, slice_index}
use Rattle.known_state.specs.Plans.{sum_of}
use Rattle.price_checker.proofs.bound.sums_of.Given as goal

abbrev pub invariant-loop-index : goal.invariant-loop-index
invariant-loop-index l = record {
  long : length l.sums ≡ 4097;
  summed : (count : ℕ) → count ≤ l.index → slice_index l.sums count ≡ sum_of (take count l.prices);
}
