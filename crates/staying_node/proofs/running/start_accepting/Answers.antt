use denote.Param.Send.{sendable}
use Rattle.std.proofs.Crossing.{crosses}
use Rattle.table_shards.proofs.Crosses.{seat_send}
use Rattle.staying_node.proofs.Crosses.{admin_sync, four_send, listener_sync, metrics_sync, node_sync, ports_sync}
use Rattle.staying_node.proofs.running.start_accepting.Goals as goal

pub spawn-requires-send-F : goal.spawn-requires-send-F
spawn-requires-send-F g c κs within = search (four_send, node_sync, ports_sync, admin_sync, metrics_sync, listener_sync, seat_send, sendable, crosses) depth 40 fits 20000
