use Rattle.std.proofs.Common.{rules, ◌≡◌, ℕ, List, length, drop, ◌∷◌, [], Option, sym, subst, arith}
use Rattle.retention_flow.specs.declared.steps.Step.{Step}
use Rattle.retention_flow.specs.Network.{IsSearch, IsSpread}
use Rattle.retention_flow.proofs.SpreadGoesOn.{first_spread, written}
use Rattle.retention_flow.proofs.path_search.search.Goals as goal

pub reach_target-requires-clause-spread : goal.reach_target-requires-clause-spread
reach_target-requires-clause-spread c =
    let hs = c.args.heights.now in
    let room = c.args.network.now.room.now in
    let arcs = c.args.network.now.arcs.now in
    let source = c.args.ends.source in
    let first = first_spread hs room arcs c.in_ok-steps.steps.items (length hs) source c.requires.calm.count c.requires.ends.0 c.in_ok-steps.ensures in
    let order : c.push.new.self.items ≡ source ∷ [] = search rules in
    subst (λ (l : List (Option Step)). IsSpread hs room arcs l source c.push.new.self.items) (sym c.deref_mut.ensures.value) (subst (λ (l : List ℕ). IsSpread hs room arcs c.in_ok-steps.steps.items source l) (sym order) first)

pub returns-clause-found : goal.returns-clause-found
returns-clause-found c =
    let hs = c.args.heights.now in
    let room = c.args.network.now.room.now in
    let arcs = c.args.network.now.arcs.now in
    let source = c.args.ends.source in
    let first = first_spread hs room arcs c.in_ok-steps.steps.items (length hs) source c.requires.calm.count c.requires.ends.0 c.in_ok-steps.ensures in
    let found = c.in_ok-reach_target.ensures.spread.found in
    let new = c.reach_target.new.steps in
    record {
      calm = c.in_ok-reach_target.ensures.calm;
      target = c.in_ok-reach_target.ensures.target;
      steps = (
        length c.reach_target.new.order.items,
        subst (λ (l : List (Option Step)). IsSearch c.reach_target.new.heights room arcs l source (length c.reach_target.new.order.items))
            (sym (written new (drop (length new) c.in_ok-steps.steps.items) c.in_ok-steps.steps.len (omega (arith, c.in_ok-steps.steps.ok.0, first.found.long, found.long)))) found,
      );
    }
