use Rattle.std.proofs.Common.{refl, arith}
use Rattle.retention_flow.proofs.SlotsAreAdded.{loop_left, loop_stays}
use Rattle.retention_flow.proofs.adding.keep_loops.Goals as goal
use Rattle.retention_flow.proofs.adding.keep_loops.Goals.{then-arcs-node, else-arcs-node}

pub loop-node-init : goal.loop-node-init
loop-node-init c = record {
  are = λ held rs are. are;
  back = c.requires.back;
  little = c.requires.little;
  loops = λ node below. absurd (omega arith);
  rest = λ node beyond. refl;
}

pub loop-node-preserved : goal.loop-node-preserved
loop-node-preserved c =
    let start = c.args.arcs.now in
    let arcs = c.loop-node.arcs in
    let node = c.loop-node.node in
    elim c.if-arcs-node.branch [
      | then-arcs-node w ↦ loop_left start arcs c.if-arcs-node.arcs node (omega (arith, c.loop-node-test.true, c.loop-node.auto.arcs)) w.if-arcs-node.true w.arcs-is c.loop-node.invariant
      | else-arcs-node w ↦ loop_stays start arcs c.if-arcs-node.arcs node (omega (arith, c.loop-node-test.true, c.loop-node.auto.arcs)) w.if-arcs-node.false (omega (arith, c.loop-node.auto.arcs)) c.requires.saves w.arcs-is c.loop-node.invariant
    ]

pub returns-clause-arcs : goal.returns-clause-arcs
returns-clause-arcs c = c.loop-node.invariant.are

pub returns-clause-back : goal.returns-clause-back
returns-clause-back c = c.loop-node.invariant.back

pub returns-clause-little : goal.returns-clause-little
returns-clause-little c = c.loop-node.invariant.little

pub returns-clause-loops : goal.returns-clause-loops
returns-clause-loops c = λ node below. c.loop-node.invariant.loops node (omega (arith, c.loop-node-test.false, c.loop-node.auto.arcs))
