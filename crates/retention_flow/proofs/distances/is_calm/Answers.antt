use Rattle.std.proofs.Common.{◌≡◌, ℕ, ◌+◌, subst, arith}
use Rattle.retention_flow.specs.Network.{IsCalmArc, arc_at}
use Rattle.retention_flow.proofs.RaisedIsCalm.{calm_all}
use Rattle.retention_flow.proofs.distances.is_calm.Goals as goal

pub returns : goal.returns
returns c = λ is. record {
  count = c.requires.long;
  rises = λ node below. c.loop-node.invariant.rises node (omega (arith, c.loop-node-test.false));
  full = λ node below. c.loop-node.invariant.full node (omega (arith, c.loop-node-test.false));
  calm = calm_all c.args.heights.now 0 c.args.network.now.arcs.now (λ i below.
      let same : i ≡ 0 + i = omega arith in
      subst (λ (n : ℕ). IsCalmArc c.args.heights.now n (arc_at c.args.network.now.arcs.now i)) same (c.loop-node.invariant.calm i (omega (arith, c.loop-node-test.false))));
}
