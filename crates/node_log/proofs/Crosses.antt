-- What waits to be written, and what was told, may go to another thread.
use denote.Param.Send.{IsSend, sendable}
use Rattle.std.proofs.Crossing.{crosses}
use Rattle.node_log.specs.contracts.told.Told as Told
use Rattle.node_log.specs.contracts.waiting.Waiting as Waiting

pub waiting_send : IsSend (Waiting.the_field).row
waiting_send = search (sendable, crosses) depth 80 fits 20000

pub told_send : IsSend (Told.the_field).row
told_send = search (sendable, crosses) depth 80 fits 20000
