use Rattle.std.proofs.Common.{◌≡◌, ◌+◌, ◌-◌, ◌*◌, ◌^◌, ◌≤◌, drop}
use Rattle.known_state.specs.Plans.{total, price_inside}
use Rattle.price_checker.proofs.bound.bound.Given as goal

abbrev pub invariant-loop-link : goal.invariant-loop-link
invariant-loop-link l =
    (l.above + total (λ x. x.saving - price_inside l.prices x) (drop l.link-index l.links) ≡ total (λ x. x.saving - price_inside l.prices x) l.links)
    × (l.above ≤ 2 ^ 32 * l.link-index)
