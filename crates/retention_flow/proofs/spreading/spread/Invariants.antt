use Rattle.std.proofs.Common.{◌+◌, ◌-◌, ◌≤◌, length}
use Rattle.retention_flow.specs.Network.{IsSpread}
use Rattle.retention_flow.proofs.spreading.spread.Given as goal

abbrev pub invariant-loop-index : goal.invariant-loop-index
invariant-loop-index l = record {
  index : l.index ≤ length l.order.items;
  grows : length l.fn.order.items ≤ length l.order.items;
  spread : IsSpread l.heights l.network.room.now l.network.arcs.now l.steps l.ends.source l.order.items;
}

abbrev pub decreases-loop-index : goal.decreases-loop-index
decreases-loop-index l = length l.network.arcs.now + 1 - l.index
