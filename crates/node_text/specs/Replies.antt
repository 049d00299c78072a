-- How replies of a table are printed (profile).
use Rattle.std.specs.Prelude.{◌++◌, ℕ, List, [], Option, Some, None, codes, length}
use Rattle.std.specs.Fmt.{decimal}
use Rattle.table_types.specs.declared.key.Key.{Key}
use Rattle.table_types.specs.declared.copies.Settled.{Settled}
use Rattle.table_types.specs.declared.copies.Settled.TheVariants as settled
use Rattle.table_types.specs.Tables.{Definition}
use Rattle.table_cell.specs.declared.events.Reply.{Reply}
use Rattle.table_cell.specs.declared.events.CellEvent.{CellEvent}
use Rattle.table_cell.specs.declared.events.CellEvent.TheVariants as events
use Rattle.table_cell.specs.declared.events.CellReply.{CellReply}
use Rattle.table_cell.specs.declared.events.CellReply.TheVariants as replies
use Rattle.node_text.specs.Rows.{stored_row_text}

-- the row that a change or a learned update stored
abbrev pub reply_text : Definition → Key → Reply → List ℕ
reply_text table key reply = codes "reply " ++ stored_row_text table (key, reply.row)

-- what an acknowledgement settled
abbrev pub settled_name : Settled → List ℕ
settled_name settled.All = codes "all"
settled_name settled.Some = codes "some"
settled_name settled.Older = codes "older"

-- the key of the row that an event stores
abbrev pub event_key : CellEvent → Option Key
event_key (events.Track seat key change moment) = Some key
event_key (events.Learn session update moment) = Some update.key
event_key event = None

-- the reply with the row of the event's key, if the event has one
abbrev pub row_reply_text : Definition → Option Key → Reply → List ℕ
row_reply_text table None reply = []
row_reply_text table (Some key) reply = reply_text table key reply

-- the reply to an event; of a batch, the number of its updates
abbrev pub event_reply_text : Definition → CellEvent → CellReply → List ℕ
event_reply_text table event (replies.Track reply) = row_reply_text table (event_key event) reply
event_reply_text table event (replies.Learn reply) = row_reply_text table (event_key event) reply
event_reply_text table event (replies.Copy batch) = codes "batch " ++ decimal (length batch)
event_reply_text table event (replies.Ack answer) = settled_name answer
event_reply_text table event replies.Open = codes "ok"
event_reply_text table event replies.Close = codes "ok"
event_reply_text table event (replies.Purge count) = codes "purged " ++ decimal count
