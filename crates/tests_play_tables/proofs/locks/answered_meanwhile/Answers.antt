use denote.Param.Send.{sendable}
use Rattle.std.proofs.Crossing.{crosses}
use Rattle.table_shards.proofs.Crosses.{shards_sync}
use Rattle.tests_play_tables.proofs.locks.answered_meanwhile.Goals as goal

pub join-came-requires-send-F : goal.join-came-requires-send-F
join-came-requires-send-F g c κs within = search (shards_sync, sendable, crosses) depth 40 fits 20000
