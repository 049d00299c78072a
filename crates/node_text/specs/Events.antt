-- How events of a table are printed: as a script has the calls that make them (profile).
use Rattle.std.specs.Prelude.{◌++◌, ℕ, List, [], ◌∷◌, codes}
use Rattle.std.specs.Fmt.{decimal}
use Rattle.table_types.specs.declared.change.Change.{Change}
use Rattle.table_cell.specs.declared.events.CellEvent.{CellEvent}
use Rattle.table_cell.specs.declared.events.CellEvent.TheVariants as events
use Rattle.table_types.specs.declared.key.Key.{Key}
use Rattle.table_types.specs.declared.update.Update.{Update}
use Rattle.table_types.specs.declared.version.Version.{Version}
use Rattle.table_types.specs.declared.version.Version.TheVariants as versions
use Rattle.table_types.specs.Tables.{Definition}
use Rattle.node_text.specs.Acks.{ack_text}
use Rattle.node_text.specs.Changes.{change_text}
use Rattle.node_text.specs.Copies.{copy_text}
use Rattle.node_text.specs.Keys.{key_text}
use Rattle.node_text.specs.Numbers.{spaced}
use Rattle.node_text.specs.Updates.{update_text}

-- a call's word, the seat or the session that makes it, and the moment, each with a space after it
abbrev pub call_head : List ℕ → ℕ → ℕ → List ℕ
call_head word id moment = word ++ (decimal id ++ (spaced moment ++ 32 ∷ []))

-- the call of a change
abbrev pub track_text : ℕ → ℕ → Key → Change → List ℕ
track_text seat moment key change = call_head (codes "track ") seat moment ++ (key_text key ++ change_text change)

-- the call of an update that a table learns
abbrev pub learn_text : Definition → ℕ → ℕ → Update → List ℕ
learn_text table session moment u = call_head (codes "learn ") session moment ++ update_text table u

-- the call that opens a session; 2.1 isn't named
abbrev pub open_text : ℕ → Version → List ℕ
open_text session versions.V20 = codes "open " ++ (decimal session ++ codes " 2.0")
open_text session versions.V21 = codes "open " ++ decimal session

-- the call that makes an event
abbrev pub event_text : Definition → CellEvent → List ℕ
event_text table (events.Track seat key change moment) = track_text seat moment key change
event_text table (events.Learn session u moment) = learn_text table session moment u
event_text table (events.Copy session kind limit moment) = copy_text session kind limit moment
event_text table (events.Ack session number) = ack_text session number
event_text table (events.Open session version) = open_text session version
event_text table (events.Close session) = codes "close " ++ decimal session
event_text table (events.Purge moment) = codes "purge " ++ decimal moment
