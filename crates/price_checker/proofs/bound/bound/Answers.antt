use Rattle.std.proofs.Common.{◌≡◌, ◌-◌, ◌^◌, ◌≤◌, ℕ, length, get_or, sym, ap, subst, arith}
use Rattle.std.proofs.Math.Nat.{mul-le-mul}
use Rattle.known_state.specs.Plans.{Link}
use Rattle.price_checker.proofs.SumsOfPrices.{prices_sum, all_is, inside_is, within_at, above-next}
use Rattle.price_checker.proofs.bound.bound.Goals as goal

pub sums_of-sums-requires-clause-small : goal.sums_of-sums-requires-clause-small
sums_of-sums-requires-clause-small c = omega (arith, prices_sum c.args.prices.now c.requires.prices.1)

pub overflow_sub-inside-in-loop-link : goal.overflow_sub-inside-in-loop-link
overflow_sub-inside-in-loop-link c =
    let prices = c.args.prices.now in
    let sums = c.sums_of-sums.result in
    let link : Link = record { from = c.link.inside.from; to = c.link.inside.to; saving = c.link.inside.saving; kept = c.link.inside.kept } in
    let at : link ≡ get_or c.args.links.now c.loop-link.link-index link = subst (λ (l : Link). l ≡ get_or c.args.links.now c.loop-link.link-index l) (sym c.link.view_is) c.link-item.is in
    let within = within_at (length prices) c.args.links.now c.loop-link.link-index link c.requires.links.1 (omega arith) at in
    let inside = inside_is prices sums link c.sums_of-sums.ensures within.0 within.1 in
    let from : get_or sums c.from-in-loop-link.result 0 ≡ get_or sums link.from 0 = ap (λ (n : ℕ). get_or sums n 0) (omega arith) in
    let to : get_or sums (c.from.result - 1) 0 ≡ get_or sums (link.to - 1) 0 = ap (λ (n : ℕ). get_or sums n 0) (omega arith) in
    omega arith

pub loop-link-preserved : goal.loop-link-preserved
loop-link-preserved c =
    let prices = c.args.prices.now in
    let sums = c.sums_of-sums.result in
    let link : Link = record { from = c.link.inside.from; to = c.link.inside.to; saving = c.link.inside.saving; kept = c.link.inside.kept } in
    let at : link ≡ get_or c.args.links.now c.loop-link.link-index link = subst (λ (l : Link). l ≡ get_or c.args.links.now c.loop-link.link-index l) (sym c.link.view_is) c.link-item.is in
    let within = within_at (length prices) c.args.links.now c.loop-link.link-index link c.requires.links.1 (omega arith) at in
    let inside = inside_is prices sums link c.sums_of-sums.ensures within.0 within.1 in
    let from : get_or sums c.from-in-loop-link.result 0 ≡ get_or sums link.from 0 = ap (λ (n : ℕ). get_or sums n 0) (omega arith) in
    let to : get_or sums (c.from.result - 1) 0 ≡ get_or sums (link.to - 1) 0 = ap (λ (n : ℕ). get_or sums n 0) (omega arith) in
    let next = above-next prices c.args.links.now c.loop-link.link-index link (omega arith) at in
    (omega (arith, c.loop-link.invariant.0), omega arith)

pub overflow_mul-result : goal.overflow_mul-result
overflow_mul-result c =
    let fewer : c.args.slots - 1 ≤ 127 = omega arith in
    let sum : get_or c.sums_of-sums.result (length c.args.prices.now) 0 ≤ 2 ^ 44 = omega (arith, all_is c.args.prices.now c.sums_of-sums.result c.sums_of-sums.ensures, prices_sum c.args.prices.now c.requires.prices.1) in
    omega (arith, mul-le-mul fewer sum)

pub overflow_add-result : goal.overflow_add-result
overflow_add-result c =
    let fewer : c.args.slots - 1 ≤ 127 = omega arith in
    let sum : get_or c.sums_of-sums.result (length c.args.prices.now) 0 ≤ 2 ^ 44 = omega (arith, all_is c.args.prices.now c.sums_of-sums.result c.sums_of-sums.ensures, prices_sum c.args.prices.now c.requires.prices.1) in
    omega (arith, mul-le-mul fewer sum)
