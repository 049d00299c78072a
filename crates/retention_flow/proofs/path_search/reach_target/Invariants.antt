use Rattle.std.proofs.Common.{◌≡◌, ◌<◌, length, slice_index}
use Rattle.retention_flow.specs.Network.{IsCalm, IsSpread}
use Rattle.retention_flow.proofs.path_search.reach_target.Given as goal

abbrev pub invariant-loop : goal.invariant-loop
invariant-loop l = record {
  calm : IsCalm l.heights l.network.room.now l.network.arcs.now;
  target : slice_index l.heights l.ends.target ≡ slice_index l.fn.heights l.ends.target;
  grows : l.counter < length l.order.items;
  spread : IsSpread l.heights l.network.room.now l.network.arcs.now l.steps l.ends.source l.order.items;
}
