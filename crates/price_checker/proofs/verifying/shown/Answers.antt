use Rattle.std.proofs.Common.{◌≡◌, true, false, length, sym, ap, ◌∙◌, rules, arith}
use Rattle.known_state.specs.Cost.{knowledge_of}
use Rattle.price_checker.specs.NamedUpdates.{named_count}
use Rattle.price_checker.specs.Verdicts.{requests}
use Rattle.price_checker.proofs.NamedRequests.{requests-named}
use Rattle.price_checker.proofs.FoundAsSaid.{some_above}
use Rattle.price_checker.proofs.verifying.shown.Goals as goal

pub returns-then-prices-named_count-clause-shown : goal.returns-then-prices-named_count-clause-shown
returns-then-prices-named_count-clause-shown c =
    let k = c.args.known.now in
    let us = c.args.batch.now in
    let count : c.named_count.result ≡ length (requests k us) = c.named_count.ensures.count ∙ ap named_count c.updates.ensures.updates ∙ sym (requests-named k.roster (knowledge_of k.state) us) in
    λ as_many. omega (arith, count, as_many)

pub returns-then-not-are_prices-clause-shown : goal.returns-then-not-are_prices-clause-shown
returns-then-not-are_prices-clause-shown c =
    let k = c.args.known.now in
    let us = c.args.batch.now in
    let count : c.named_count.result ≡ length (requests k us) = c.named_count.ensures.count ∙ ap named_count c.updates.ensures.updates ∙ sym (requests-named k.roster (knowledge_of k.state) us) in
    (omega (arith, count), some_above c.args.prices.now (λ all. no_way (sym (c.are_prices.ensures.1 all) ∙ c.if-not-are_prices.true)))
  where
    no_way : true ≡ false → ⊥
    no_way e = cc

pub shown_by_bound-requires-clause-prices : goal.shown_by_bound-requires-clause-prices
shown_by_bound-requires-clause-prices c =
    let k = c.args.known.now in
    let us = c.args.batch.now in
    let count : c.named_count.result ≡ length (requests k us) = c.named_count.ensures.count ∙ ap named_count c.updates.ensures.updates ∙ sym (requests-named k.roster (knowledge_of k.state) us) in
    let asked : length c.in_ok-costing.costing.requests.items ≡ length (requests k us) = ap length c.in_ok-costing.ensures.requests in
    (omega (arith, count, asked), search rules)
