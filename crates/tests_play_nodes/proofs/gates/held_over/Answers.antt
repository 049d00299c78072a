use denote.Param.Send.{sendable}
use Rattle.std.proofs.Crossing.{crosses}
use Rattle.table_shards.proofs.Crosses.{shards_sync}
use Rattle.tests_play_nodes.proofs.Crosses.{five_send, option_seat_send}
use Rattle.tests_play_nodes.proofs.gates.held_over.Goals as goal

pub join-was_answered-requires-send-F : goal.join-was_answered-requires-send-F
join-was_answered-requires-send-F g c = search (five_send, option_seat_send, shards_sync, sendable, crosses) depth 40 fits 20000
