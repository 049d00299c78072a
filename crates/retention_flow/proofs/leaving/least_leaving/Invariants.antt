use Rattle.std.proofs.Common.{ℕ, ◌<◌}
use Rattle.std.specs.Prelude.{IfSome}
use Rattle.retention_flow.specs.Network.{is_reached, IsNoMore, Leaves}
use Rattle.retention_flow.proofs.RaisedIsCalm.{IsSlackAt}
use Rattle.retention_flow.proofs.leaving.least_leaving.Given as goal

abbrev pub invariant-loop-node : goal.invariant-loop-node
invariant-loop-node l = record {
  slack : (by : ℕ) → IsNoMore by l.least → (node : ℕ) → node < l.node → IsSlackAt l.heights l.network.room.now l.network.arcs.now (is_reached l.steps) by node;
  leaves : IfSome l.least (Leaves l.heights l.network.room.now l.network.arcs.now l.steps);
}
