use Rattle.std.proofs.Common.{◌≡◌, ℕ, ◌≤◌, ◌-◌, ◌^◌, Bool, List, length, rules, arith, ap, ◌∙◌, subst, sym}
use Rattle.std.specs.List.{AllByRecursion}
use Rattle.known_state.specs.Plans.{at_start, links, AreLinked, kept_over, bound}
use Rattle.price_checker.proofs.PlansAreAccepted.{found_within, accepted}
use Rattle.price_checker.proofs.plan_check.check_plan.Goals as goal

pub have_room-requires-clause-within : goal.have_room-requires-clause-within
have_room-requires-clause-within c =
    found_within 4096 c.args.held.now c.args.requests.now c.keep-keep.result.now c.as_slice-links.result.now c.requires.requests (c.as_slice-links.ensures.links ∙ c.find_links-found.ensures.links)

pub bound-requires-clause-links : goal.bound-requires-clause-links
bound-requires-clause-links c =
    (search rules, found_within (length c.prices-prices.result.now) c.args.held.now c.args.requests.now c.keep-keep.result.now c.as_slice-links.result.now (omega arith) (c.as_slice-links.ensures.links ∙ c.find_links-found.ensures.links))

pub returns : goal.returns
returns c =
    let held = c.args.held.now in
    let rs = c.args.requests.now in
    let plan = c.args.plan.now in
    let ls = c.as_slice-links.result.now in
    let keep_is : c.keep-keep.result.now ≡ plan.keep = c.keep-keep.ensures in
    let prices_is : c.prices-prices.result.now ≡ plan.prices = c.prices-prices.ensures in
    let marks : length plan.keep ≡ length rs = ap length (sym keep_is) ∙ omega arith in
    let prices : length plan.prices ≡ length rs = ap length (sym prices_is) ∙ omega arith in
    let range : AllByRecursion (λ price. price ≤ 2 ^ 32) c.prices-prices.result.now = search rules in
    let linked : AreLinked (at_start held) rs c.keep-keep.result.now = search rules in
    let found : ls ≡ links held rs c.keep-keep.result.now = c.as_slice-links.ensures.links ∙ c.find_links-found.ensures.links in
    let room : (place : ℕ) → kept_over ls place ≤ c.args.slots - 1 = search rules in
    accepted c.args.slots held rs plan ls c.kept_savings.result c.bound.result marks prices
    (subst (λ (l : List ℕ). AllByRecursion (λ price. price ≤ 2 ^ 32) l) prices_is range)
    (subst (λ (l : List Bool). AreLinked (at_start held) rs l) keep_is linked)
    (found ∙ ap (links held rs) keep_is)
    room
    c.kept_savings.ensures
    (c.bound.ensures ∙ ap (λ (l : List ℕ). bound c.args.slots ls l) prices_is)
