use Rattle.std.proofs.Common.{◌≡◌, true, List, length, take, rules, ap, ◌∙◌, arith}
use Rattle.std.specs.Prelude.{replicate}
use Rattle.known_state.specs.Plans.{Link, all_links, bound, links, names_in}
use Rattle.price_checker.proofs.AllMarks.{all_marks}
use Rattle.price_checker.proofs.PlansAreAccepted.{found_within}
use Rattle.price_checker.proofs.verifying.bound_shown.Goals as goal

pub bound-requires-clause-links : goal.bound-requires-clause-links
bound-requires-clause-links c =
    let rs = c.args.requests.now in
    let found : c.as_slice.result.now ≡ links (names_in c.args.slots.now) rs (take (length rs) (replicate 4096 true)) = c.as_slice.ensures.links ∙ c.find_links-links.ensures.links in
    (search rules, found_within (length c.args.prices.now) (names_in c.args.slots.now) rs (take (length rs) (replicate 4096 true)) c.as_slice.result.now (omega arith) found)

pub returns : goal.returns
returns c =
    let rs = c.args.requests.now in
    let held = names_in c.args.slots.now in
    let found : c.as_slice.result.now ≡ links held rs (take (length rs) (replicate 4096 true)) = c.as_slice.ensures.links ∙ c.find_links-links.ensures.links in
    let all : c.as_slice.result.now ≡ all_links held rs = found ∙ ap (links held rs) (all_marks rs 4096 c.requires.requests) in
    c.bound.ensures ∙ ap (λ (ls : List Link). bound 128 ls c.args.prices.now) all
