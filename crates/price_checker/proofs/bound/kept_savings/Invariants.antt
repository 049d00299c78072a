use Rattle.std.proofs.Common.{◌≡◌, ◌+◌, ◌*◌, ◌^◌, ◌≤◌, drop}
use Rattle.known_state.specs.Plans.{kept_savings}
use Rattle.price_checker.proofs.bound.kept_savings.Given as goal

abbrev pub invariant-loop-link : goal.invariant-loop-link
invariant-loop-link l = (l.saved + kept_savings (drop l.link-index l.links) ≡ kept_savings l.links) × (l.saved ≤ 2 ^ 32 * l.link-index)
