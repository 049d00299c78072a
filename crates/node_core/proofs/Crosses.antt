-- What asks the peers, and what notes when numbers are assigned, may go to another thread.
use denote.Param.Send.{IsSend, sendable}
use Rattle.std.proofs.Crossing.{crosses}
use Rattle.node_core.specs.contracts.asking.Asking as Asking
use Rattle.node_core.specs.contracts.number_times.NumberTimes as NumberTimes

pub asking_send : IsSend (Asking.the_field).row
asking_send = search (sendable, crosses) depth 80 fits 20000

pub number_times_send : IsSend (NumberTimes.the_field).row
number_times_send = search (sendable, crosses) depth 80 fits 20000
