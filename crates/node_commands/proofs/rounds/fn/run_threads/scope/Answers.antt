use denote.Param.Send.{sendable}
use Rattle.std.proofs.Crossing.{crosses}
use Rattle.table_shards.proofs.Crosses.{seat_send, shards_sync}
use Rattle.node_commands.proofs.Crosses.{five_send, known_send, seven_send}
use Rattle.node_commands.proofs.rounds.fn.run_threads.scope.Goals as goal

pub spawn_with-started-requires-send-F : goal.spawn_with-started-requires-send-F
spawn_with-started-requires-send-F g c κs within = search (five_send, seat_send, shards_sync, sendable, crosses) depth 40 fits 20000

pub spawn_with-started-requires-2-send-F : goal.spawn_with-started-requires-2-send-F
spawn_with-started-requires-2-send-F g c κs within = search (seven_send, seat_send, known_send, shards_sync, sendable, crosses) depth 40 fits 20000
