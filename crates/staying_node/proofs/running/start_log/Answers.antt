use denote.Param.Send.{sendable}
use Rattle.std.proofs.Crossing.{crosses}
use Rattle.staying_node.proofs.Crosses.{log_send, log_sync}
use Rattle.staying_node.proofs.running.start_log.Goals as goal

pub spawn-started-requires-send-F : goal.spawn-started-requires-send-F
spawn-started-requires-send-F g c κs within = search (log_send, log_sync, sendable, crosses) depth 40 fits 20000
