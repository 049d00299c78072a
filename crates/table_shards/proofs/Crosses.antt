-- Threads may share tables under their locks, and a seat may go to another thread.
use denote.Param.Send.{IsSend, IsSync, sendable}
use Rattle.std.proofs.Crossing.{crosses}
use Rattle.table_cell.proofs.Crosses.{cell_send, entry_send}
use Rattle.table_shards.specs.contracts.locked.Locked as Locked
use Rattle.table_shards.specs.contracts.shards.Shard as Shard
use Rattle.table_shards.specs.contracts.shards.Shards as Shards
use Rattle.table_shards.specs.contracts.seat.Seat as Seat

pub locked_send : IsSend (Locked.the_field).row
locked_send = search (cell_send, sendable) depth 20

shard_sync : IsSync (Shard.the_field).row
shard_sync = search (locked_send, sendable, crosses) depth 20

pub shards_sync : IsSync (Shards.the_field).row
shards_sync = search (shard_sync, sendable, crosses) depth 20

pub seat_send : IsSend (Seat.the_field).row
seat_send = search (entry_send, sendable, crosses) depth 80 fits 20000
