use denote.Param.Send.{sendable}
use Rattle.std.proofs.Crossing.{crosses}
use Rattle.table_shards.proofs.Crosses.{seat_send}
use Rattle.staying_node.proofs.Crosses.{admin_sync, four_send, node_sync, ports_sync}
use Rattle.staying_node.proofs.running.start_peers.Goals as goal

pub spawn-started-requires-send-F : goal.spawn-started-requires-send-F
spawn-started-requires-send-F g c κs within = search (four_send, node_sync, ports_sync, admin_sync, seat_send, sendable, crosses) depth 40 fits 20000

pub spawn-started-requires-in-loop-index-send-F : goal.spawn-started-requires-in-loop-index-send-F
spawn-started-requires-in-loop-index-send-F g c κs within = search (four_send, node_sync, ports_sync, admin_sync, seat_send, sendable, crosses) depth 40 fits 20000
