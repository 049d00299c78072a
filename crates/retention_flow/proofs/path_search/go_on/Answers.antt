use Rattle.std.proofs.Common.{ℕ, List, length, Option, Some, refl, sym, subst, arith}
use Rattle.std.specs.Prelude.{slice_set}
use Rattle.retention_flow.specs.declared.steps.Step.{Step}
use Rattle.retention_flow.specs.Network.{IsSpread}
use Rattle.retention_flow.proofs.SearchGoesOn.{some_leaves, slack_small}
use Rattle.retention_flow.proofs.SpreadGoesOn.{one_spread, raised_least, least_leaves, source_within}
use Rattle.retention_flow.proofs.path_search.go_on.Goals as goal

pub least_leaving-requires-clause-small : goal.least_leaving-requires-clause-small
least_leaving-requires-clause-small c = λ node below. omega (arith, c.requires.low c.args.heights.now c.requires.calm refl node below)

pub unwrap-leaving-requires : goal.unwrap-leaving-requires
unwrap-leaving-requires c =
    some_leaves c.args.heights.now c.args.network.now.room.now c.args.network.now.arcs.now c.args.steps.now c.args.ends.source c.args.ends.target c.least_leaving.result c.requires.calm c.requires.network.back c.requires.low
    (source_within c.args.heights.now c.args.network.now.room.now c.args.network.now.arcs.now c.args.steps.now c.args.ends.source (length c.args.order.now.items) c.requires.spread.found) c.requires.target c.requires.start c.requires.spread.found.start c.least_leaving.ensures.slack

pub raise-requires-clause-small : goal.raise-requires-clause-small
raise-requires-clause-small c = λ node below.
    let small = c.requires.low c.args.heights.now c.requires.calm refl in
    let leaves = least_leaves c.args.heights.now c.args.network.now.room.now c.args.network.now.arcs.now c.args.steps.now c.least_leaving.result c.unwrap-leaving.result c.unwrap-leaving.ensures c.least_leaving.ensures.leaves in
    omega (arith, small node below, slack_small c.args.heights.now c.args.network.now.room.now c.args.network.now.arcs.now c.args.steps.now c.unwrap-leaving.result c.requires.calm.count c.requires.network.little small leaves)

pub reach-requires : goal.reach-requires
reach-requires c =
    let leaves = least_leaves c.args.heights.now c.args.network.now.room.now c.args.network.now.arcs.now c.args.steps.now c.least_leaving.result c.unwrap-leaving.result c.unwrap-leaving.ensures c.least_leaving.ensures.leaves in
    omega (arith, leaves.0, c.requires.spread.found.long)

pub spread-requires-clause-calm : goal.spread-requires-clause-calm
spread-requires-clause-calm c =
    (raised_least c.args.heights.now c.raise.new.heights c.args.network.now.room.now c.args.network.now.arcs.now c.args.steps.now c.args.ends.target c.least_leaving.result c.unwrap-leaving.result c.requires.network.back c.requires.calm c.requires.target c.requires.start c.unwrap-leaving.ensures
    c.least_leaving.ensures.slack c.raise.ensures.count c.raise.ensures.raised).0

pub spread-requires-clause-small : goal.spread-requires-clause-small
spread-requires-clause-small c = λ node below.
    let new = raised_least c.args.heights.now c.raise.new.heights c.args.network.now.room.now c.args.network.now.arcs.now c.args.steps.now c.args.ends.target c.least_leaving.result c.unwrap-leaving.result c.requires.network.back c.requires.calm c.requires.target c.requires.start c.unwrap-leaving.ensures
    c.least_leaving.ensures.slack c.raise.ensures.count c.raise.ensures.raised in
    omega (arith, c.requires.low c.raise.new.heights new.0 new.1 node below)

pub spread-requires-clause-spread : goal.spread-requires-clause-spread
spread-requires-clause-spread c =
    let leaving = c.unwrap-leaving.result in
    let new = c.raise.new.heights in
    let room = c.args.network.now.room.now in
    let arcs = c.args.network.now.arcs.now in
    let steps = c.args.steps.now in
    let source = c.args.ends.source in
    let order = c.args.order.now.items in
    let leaves = least_leaves c.args.heights.now room arcs steps c.least_leaving.result leaving c.unwrap-leaving.ensures c.least_leaving.ensures.leaves in
    subst (λ (l : List (Option Step)). IsSpread new room arcs l source c.reach.new.order.items) (sym c.in_ok-reach.ensures.steps)
    (subst (λ (l : List ℕ). IsSpread new room arcs (slice_set steps leaving.node (Some (record { rank = length order; arc = leaving.arc }))) source l) (sym c.in_ok-reach.ensures.order)
    (one_spread c.args.heights.now new room arcs steps source order leaving c.requires.network.back c.requires.calm.count c.raise.ensures.raised leaves c.requires.spread))

pub returns-clause-calm : goal.returns-clause-calm
returns-clause-calm c =
    (raised_least c.args.heights.now c.raise.new.heights c.args.network.now.room.now c.args.network.now.arcs.now c.args.steps.now c.args.ends.target c.least_leaving.result c.unwrap-leaving.result c.requires.network.back c.requires.calm c.requires.target c.requires.start c.unwrap-leaving.ensures
    c.least_leaving.ensures.slack c.raise.ensures.count c.raise.ensures.raised).0

pub returns-clause-target : goal.returns-clause-target
returns-clause-target c =
    (raised_least c.args.heights.now c.raise.new.heights c.args.network.now.room.now c.args.network.now.arcs.now c.args.steps.now c.args.ends.target c.least_leaving.result c.unwrap-leaving.result c.requires.network.back c.requires.calm c.requires.target c.requires.start c.unwrap-leaving.ensures
    c.least_leaving.ensures.slack c.raise.ensures.count c.raise.ensures.raised).1
