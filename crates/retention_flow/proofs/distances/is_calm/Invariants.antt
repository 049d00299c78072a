use Rattle.std.proofs.Common.{ℕ, ◌+◌, ◌<◌, ◌≤◌, slice_index}
use Rattle.retention_flow.specs.Network.{arc_at, IsCalmArc}
use Rattle.retention_flow.proofs.distances.is_calm.Given as goal

abbrev pub invariant-loop-node : goal.invariant-loop-node
invariant-loop-node l = record {
  rises : (node : ℕ) → node < l.node → slice_index l.heights node ≤ slice_index l.heights (node + 1);
  full : (node : ℕ) → node < l.node → 0 < slice_index l.network.room.now node → slice_index l.heights (node + 1) ≤ slice_index l.heights node;
  calm : (node : ℕ) → node < l.node → IsCalmArc l.heights node (arc_at l.network.arcs.now node);
}
