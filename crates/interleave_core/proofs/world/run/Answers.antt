use Rattle.std.proofs.Common.{subst}
use Rattle.interleave_core.specs.Moves.{RunsTo}
use Rattle.interleave_core.specs.Parts.{world_of}
use Rattle.interleave_core.specs.SoundWorlds.{IsSoundWorld, IsTimelyStep}
use Rattle.interleave_core.proofs.InOrder.{copied_since, core_between, core_each, in_order_next}
use Rattle.interleave_core.proofs.Running.{all_further, leads_further}
use Rattle.interleave_core.proofs.WorldTold.{core_of}
use Rattle.interleave_core.proofs.world.run.Goals as goal

pub loop-step-init : goal.loop-step-init
loop-step-init c = record { order = c.world.invariant; timely = λ all. all; leads = λ e runs. subst (λ w. RunsTo w c.args.steps.now e) c.world.view_is runs }

pub loop-step-preserved : goal.loop-step-preserved
loop-step-preserved c =
    let now = world_of c.loop-step.parts in
    let next = world_of c.make.new.self in
    let step = c.step-item.result in
    record {
      order = in_order_next now next step c.in_ok-make.ensures.timely c.in_ok-make.ensures.moves c.loop-step.invariant.order;
      timely = all_further IsTimelyStep c.args.steps.now c.loop-step.step-index step c.loop-step-test.true c.step-item.is c.in_ok-make.ensures.timely c.loop-step.invariant.timely;
      leads = leads_further c.args.world now next c.args.steps.now c.loop-step.step-index step c.loop-step-test.true c.step-item.is c.in_ok-make.ensures.moves c.loop-step.invariant.leads;
    }

pub returns-clause-core : goal.returns-clause-core
returns-clause-core c = core_of (world_of c.loop-step.parts) c.loop-step.invariant.order.sound

pub returns-clause-between : goal.returns-clause-between
returns-clause-between c =
    core_between c.args.world (world_of c.loop-step.parts) c.args.steps.now c.loop-step.step-index c.loop-step-test.false
    (subst IsSoundWorld c.world.view_is c.world.invariant.sound) c.loop-step.invariant.timely c.loop-step.invariant.leads

pub returns-clause-each : goal.returns-clause-each
returns-clause-each c =
    core_each c.args.world c.args.steps.now c.loop-step.step-index c.loop-step-test.false (subst IsSoundWorld c.world.view_is c.world.invariant.sound) c.loop-step.invariant.timely

pub returns-clause-since : goal.returns-clause-since
returns-clause-since c =
    copied_since c.args.world c.args.steps.now c.loop-step.step-index c.loop-step-test.false (subst IsSoundWorld c.world.view_is c.world.invariant.sound) c.loop-step.invariant.timely

pub returns-clause-versions : goal.returns-clause-versions
returns-clause-versions c = c.loop-step.invariant.order.versions
