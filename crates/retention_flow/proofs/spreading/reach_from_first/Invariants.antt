use Rattle.std.proofs.Common.{ℕ, ◌≤◌, length}
use Rattle.retention_flow.specs.Network.{IsSpread}
use Rattle.retention_flow.proofs.spreading.reach_from_first.Given as goal

abbrev pub invariant-loop-place : goal.invariant-loop-place
invariant-loop-place l = record {
  grows : length l.fn.order.items ≤ length l.order.items;
  spread : (source : ℕ) → IsSpread l.heights l.network.room.now l.network.arcs.now l.fn.steps source l.fn.order.items → IsSpread l.heights l.network.room.now l.network.arcs.now l.steps source l.order.items;
}
