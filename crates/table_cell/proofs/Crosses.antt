-- A table may go to another thread. A lemma for each of its parts, since one search through all of them gives up.
use denote.Param.Send.{IsSend, IsSync, sendable}
use Rattle.std.proofs.Crossing.{crosses}
use Rattle.std.proofs.MapsCrossing.{crosses as maps}
use Rattle.table_types.specs.contracts.batch.Batch as Batch
use Rattle.table_cell.specs.contracts.events.CellEvent as CellEvent
use Rattle.table_cell.specs.contracts.events.CellReply as CellReply
use Rattle.table_cell.specs.contracts.table.Table as Table
use Rattle.table_cell.specs.contracts.entry.Entry as Entry
use Rattle.table_cell.specs.contracts.cell.TableCell as TableCell
use Rattle.table_stock.proofs.Crosses.{stock_send}

table_send : IsSend (Table.the_field).row
table_send = search (stock_send, sendable, crosses) depth 80 fits 20000

event_send : IsSend (CellEvent.the_field).row
event_send = search (sendable, crosses) depth 80 fits 20000

event_sync : IsSync (CellEvent.the_field).row
event_sync = search (sendable, crosses) depth 80 fits 20000

batch_send : IsSend (Batch.the_field).row
batch_send = search (sendable, crosses) depth 80 fits 20000

batch_sync : IsSync (Batch.the_field).row
batch_sync = search (sendable, crosses) depth 80 fits 20000

reply_send : IsSend (CellReply.the_field).row
reply_send = search (batch_send, sendable, crosses) depth 80 fits 20000

reply_sync : IsSync (CellReply.the_field).row
reply_sync = search (batch_sync, sendable, crosses) depth 80 fits 20000

pub entry_send : IsSend (Entry.the_field).row
entry_send = search (event_send, event_sync, reply_send, reply_sync, sendable, crosses) depth 80 fits 20000

pub cell_send : IsSend (TableCell.the_field).row
cell_send = search (table_send, entry_send, sendable, crosses, maps) depth 80 fits 20000
