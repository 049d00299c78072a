-- A stock may go to another thread. A lemma for each of its parts, since one search through all of them gives up.
use denote.Param.Send.{IsSend, sendable}
use Rattle.std.proofs.Crossing.{crosses}
use Rattle.std.proofs.MapsCrossing.{crosses as maps}
use Rattle.std.proofs.MapsCrossingOver.{crosses as sets}
use Rattle.table_stock.specs.contracts.log.Log as Log
use Rattle.table_stock.specs.contracts.slots.Slots as Slots
use Rattle.table_stock.specs.contracts.stock.Stock as Stock

log_send : IsSend (Log.the_field).row
log_send = search (sendable, crosses) depth 80 fits 20000

slots_send : IsSend (Slots.the_field).row
slots_send = search (sendable, crosses) depth 80 fits 20000

pub stock_send : IsSend (Stock.the_field).row
stock_send = search (log_send, slots_send, sendable, crosses, maps, sets) depth 80 fits 20000
