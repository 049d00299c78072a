use Rattle.std.proofs.Common.{ap, arith}
use Rattle.std.specs.Prelude.{is_some}
use Rattle.retention_flow.proofs.PathIsTurned.{first_walk, residual_here, rank_falls, next_walk, next_arcs, walked_all}
use Rattle.retention_flow.proofs.augmenting.augment.Goals as goal

pub loop-node-init : goal.loop-node-init
loop-node-init c = record {
  walk = λ hs count slots calm found spent. first_walk hs c.args.room.now c.args.arcs.now c.args.steps.now count slots c.args.ends.source c.args.ends.target c.requires.count c.requires.back c.requires.little c.requires.reached calm found spent;
  arcs = λ held rs are. are;
}

pub offset_bounds-steps-node : goal.offset_bounds-steps-node
offset_bounds-steps-node c =
    let s = c.requires.search in
    let walk = c.loop-node.invariant.walk s.0 s.1 s.2 s.4 s.5 s.6 in
    omega (arith, walk.within c.loop-node.node walk.here.0 walk.here.1, c.requires.small, c.loop-node.auto.arcs)

pub bounds-steps-node : goal.bounds-steps-node
bounds-steps-node c =
    let s = c.requires.search in
    let walk = c.loop-node.invariant.walk s.0 s.1 s.2 s.4 s.5 s.6 in
    omega (arith, walk.within c.loop-node.node walk.here.0 walk.here.1, s.5.long, c.loop-node.auto.arcs)

pub unwrap-step-requires : goal.unwrap-step-requires
unwrap-step-requires c =
    let s = c.requires.search in
    let walk = c.loop-node.invariant.walk s.0 s.1 s.2 s.4 s.5 s.6 in
    ap is_some walk.here.1

pub augment_step-node-requires-clause-most : goal.augment_step-node-requires-clause-most
augment_step-node-requires-clause-most c = λ place below.
    let s = c.requires.search in
    let walk = c.loop-node.invariant.walk s.0 s.1 s.2 s.4 s.5 s.6 in
    omega (arith, walk.walked place (omega (arith, walk.long)), s.3)

pub augment_step-node-requires-clause-residual : goal.augment_step-node-requires-clause-residual
augment_step-node-requires-clause-residual c =
    let s = c.requires.search in
    let walk = c.loop-node.invariant.walk s.0 s.1 s.2 s.4 s.5 s.6 in
    (s.0, residual_here s.0 c.loop-node.room c.loop-node.arcs c.args.steps.now s.2 c.args.ends.source c.loop-node.node c.unwrap-step.result walk c.unwrap-step.ensures)

pub loop-node-smaller : goal.loop-node-smaller
loop-node-smaller c =
    let s = c.requires.search in
    let walk = c.loop-node.invariant.walk s.0 s.1 s.2 s.4 s.5 s.6 in
    rank_falls s.0 c.loop-node.room c.loop-node.arcs c.args.steps.now s.2 c.args.ends.source c.loop-node.node c.augment_step-node.result c.unwrap-step.result walk c.unwrap-step.ensures c.loop-node-test.true c.augment_step-node.ensures.before

pub loop-node-preserved : goal.loop-node-preserved
loop-node-preserved c =
    let s = c.requires.search in
    let walk = c.loop-node.invariant.walk s.0 s.1 s.2 s.4 s.5 s.6 in
    record {
      walk = λ hs count slots calm found spent.
          next_walk hs c.loop-node.room c.loop-node.arcs c.args.steps.now slots c.args.ends.source c.loop-node.node c.unwrap-step.result c.augment_step-node.new.room c.augment_step-node.new.arcs c.augment_step-node.result
          c.unwrap-step.ensures c.loop-node-test.true c.augment_step-node.ensures.room c.augment_step-node.ensures.arcs c.augment_step-node.ensures.before (c.loop-node.invariant.walk hs count slots calm found spent);
      arcs = λ held rs are.
          next_arcs held rs s.0 c.loop-node.room c.loop-node.arcs c.args.steps.now s.2 c.args.ends.source c.loop-node.node c.unwrap-step.result c.augment_step-node.new.arcs
          c.unwrap-step.ensures c.loop-node-test.true c.augment_step-node.ensures.arcs walk (c.loop-node.invariant.arcs held rs are);
    }

pub returns-clause-turned : goal.returns-clause-turned
returns-clause-turned c = λ hs count slots calm found spent.
    walked_all hs c.loop-node.room c.loop-node.arcs c.args.steps.now slots c.args.ends.source c.loop-node.node c.loop-node-test.false (c.loop-node.invariant.walk hs count slots calm found spent)

pub returns-clause-arcs : goal.returns-clause-arcs
returns-clause-arcs c = c.loop-node.invariant.arcs

pub returns-clause-back : goal.returns-clause-back
returns-clause-back c =
    let s = c.requires.search in
    let walk = c.loop-node.invariant.walk s.0 s.1 s.2 s.4 s.5 s.6 in
    walk.back

pub returns-clause-little : goal.returns-clause-little
returns-clause-little c =
    let s = c.requires.search in
    let walk = c.loop-node.invariant.walk s.0 s.1 s.2 s.4 s.5 s.6 in
    walk.little
