use denote.Param.Send.{sendable}
use Rattle.std.proofs.Crossing.{crosses}
use Rattle.table_shards.proofs.Crosses.{shards_sync}
use Rattle.node_commands.proofs.SessionCrosses.{task_send}
use Rattle.node_commands.proofs.node.sharing.start.Goals as goal

pub spawn_with-requires-send-F : goal.spawn_with-requires-send-F
spawn_with-requires-send-F g c κs within = search (task_send, shards_sync, sendable, crosses) depth 40 fits 20000
