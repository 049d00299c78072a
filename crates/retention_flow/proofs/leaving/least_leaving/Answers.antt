use Rattle.std.proofs.Common.{ℕ, ◌≡◌, ◌+◌, ◌⊎◌, Option, subst, sym, inl, inr, arith}
use Rattle.std.specs.Prelude.{IfSome}
use Rattle.std.proofs.lemmas.Bool.{cases_lt}
use Rattle.retention_flow.specs.declared.steps.Leaving.{Leaving}
use Rattle.retention_flow.specs.Network.{is_reached, arc_at, IsCalmArc, Leaves}
use Rattle.retention_flow.proofs.RaisedIsCalm.{IsSlackAt, calm_at}
use Rattle.retention_flow.proofs.leaving.least_leaving.Goals as goal

either_some : (P : Leaving → Type 0) (one other least : Option Leaving) → (least ≡ one) ⊎ (least ≡ other) → IfSome one P → IfSome other P → IfSome least P
either_some P one other least (inl same) first second = subst (λ (o : Option Leaving). IfSome o P) (sym same) first
either_some P one other least (inr same) first second = subst (λ (o : Option Leaving). IfSome o P) (sym same) second

pub over_arc-requires-clause-calm : goal.over_arc-requires-clause-calm
over_arc-requires-clause-calm c =
    let node = c.loop-node.node in
    let same : 0 + node ≡ node = omega arith in
    subst (λ (n : ℕ). IsCalmArc c.args.heights.now n (arc_at c.args.network.now.arcs.now node)) same (calm_at c.args.heights.now 0 node c.args.network.now.arcs.now c.requires.calm.calm c.loop-node-test.true)

pub loop-node-preserved : goal.loop-node-preserved
loop-node-preserved c =
    let arcs = c.args.network.now.arcs.now in
    let P : Leaving → Type 0 = Leaves c.args.heights.now c.args.network.now.room.now arcs c.args.steps.now in
    let first : IfSome c.lesser-least.result P = either_some P c.loop-node.least c.over_place.result c.lesser-least.result c.lesser-least.ensures.either c.loop-node.invariant.leaves (c.over_place.ensures.leaves arcs c.loop-node-test.true) in
    record {
      slack = λ by few node below.
          let two = c.lesser-least-in-loop-node.ensures.both by few in
          let one = c.lesser-least.ensures.both by two.0 in
          elim (cases_lt node c.loop-node.node) [
            | inl before ↦ c.loop-node.invariant.slack by one.0 node before
            | inr beyond ↦
                let here : c.loop-node.node ≡ node = omega arith in
                subst (λ (n : ℕ). IsSlackAt c.args.heights.now c.args.network.now.room.now arcs (is_reached c.args.steps.now) by n) here
                (c.over_place.ensures.right by one.1, c.over_place.ensures.left by one.1, c.over_arc.ensures.slack by two.1)
          ];
      leaves = either_some P c.lesser-least.result c.over_arc.result c.lesser-least-in-loop-node.result c.lesser-least-in-loop-node.ensures.either first (c.over_arc.ensures.leaves c.args.network.now.room.now);
    }

pub returns-clause-slack : goal.returns-clause-slack
returns-clause-slack c = λ by few. record {
  right = λ node below. (c.loop-node.invariant.slack by few node (omega arith)).0;
  left = λ node below. (c.loop-node.invariant.slack by few node (omega arith)).1;
  over = λ node below. (c.loop-node.invariant.slack by few node (omega arith)).2;
}
