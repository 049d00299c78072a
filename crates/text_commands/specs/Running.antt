-- What a script prints: its calls are made in turn, each of the table as the calls before it left it (profile).
use Rattle.std.specs.Prelude.{◌≡◌, ◌≤◌, ◌-◌, ◌+◌, ◌++◌, ℕ, List, [], ◌∷◌, Option, Some, None, Result, Ok, Err, length, slice_get, is_some, nat_lt, if◌then◌else◌}
use Rattle.std.specs.Option.{unwrap_or}
use Rattle.table_types.specs.declared.key.Key.{Key}
use Rattle.table_types.specs.declared.copies.Settled.{Settled}
use Rattle.table_types.specs.declared.update.Update.{Update}
use Rattle.table_types.specs.Rows.{StoredRow}
use Rattle.table_types.specs.Tables.{Definition}
use Rattle.table_cell.specs.declared.events.CellEvent.{CellEvent}
use Rattle.table_cell.specs.declared.events.CellReply.{CellReply}
use Rattle.table_cell.specs.declared.events.Reply.{Reply}
use Rattle.table_cell.specs.declared.errors.TrackError.{TrackError}
use Rattle.table_cell.specs.declared.errors.LearnError.{LearnError}
use Rattle.table_cell.specs.declared.errors.CopyError.{CopyError}
use Rattle.table_cell.specs.declared.errors.AckError.{AckError}
use Rattle.table_cell.specs.declared.errors.StrangeBatch.{StrangeBatch}
use Rattle.table_cell.specs.declared.errors.OpenError.{OpenError}
use Rattle.table_cell.specs.declared.errors.CloseError.{CloseError}
use Rattle.table_cell.specs.declared.errors.PurgeError.{PurgeError}
use Rattle.table_cell.specs.declared.errors.CheckpointError.{CheckpointError}
use Rattle.table_cell.specs.declared.errors.RenumberError.{RenumberError}
use Rattle.table_cell.specs.Stock.{AreInRisingKey}
use Rattle.table_cell.specs.Histories.{Acknowledges, CellState, Checkpoints, Closes, Copies, IsLatestBatch, Learns, Opens, Purges, Slides, Tracks, event_in, events_of, new_cell, room_of}
use Rattle.table_cell.specs.Renumbering.{Renumbers}
use Rattle.node_text.specs.declared.calls.Call.{Call}
use Rattle.node_text.specs.declared.calls.Call.TheVariants as calls
use Rattle.node_text.specs.declared.script_tables.ScriptTable.{ScriptTable}
use Rattle.node_text.specs.declared.scripts.Script.{Script}
use Rattle.text_commands.specs.Answers.{acknowledged, begun_anew, closed, copied, dropped_line, event_line, events_line, learned, opened, purged, renumbered, rows_lines, settled, tracked}
use Rattle.text_commands.specs.Endings.{IsEarly}
use Rattle.text_commands.specs.declared.endings.Ending.{Ending}
use Rattle.text_commands.specs.declared.endings.Ending.TheVariants as endings

-- ---- a call

-- the table's definition
abbrev pub definition_of : CellState → Definition
definition_of c = c.state.definition

-- the batches that the script got, with the new one
abbrev pub with_batch : List (List Update) → Result (List Update) CopyError → List (List Update)
with_batch given (Ok us) = given ++ us ∷ []
with_batch given (Err error) = given

-- the batch at `place`, from 1, of those that the script got
abbrev pub batch_at : List (List Update) → ℕ → Option (List Update)
batch_at given place = if nat_lt 0 place then slice_get given (place - 1) else None

-- whether the batch is the session's latest one
abbrev pub Settles : CellState → ℕ → List Update → Result (Unit {0}) StrangeBatch → Type 0
Settles c session us (Ok done) = IsLatestBatch c session us
Settles c session us (Err error) = IsLatestBatch c session us → ⊥

-- From the cell `c` and the batches `given`, the call prints the text, and leaves `e` and the batches `more`. A call to
-- settle names one of the batches `given`.
abbrev pub Prints : CellState → List (List Update) → Call → List ℕ → CellState → List (List Update) → Type 0
Prints c given (calls.Open session version) text e more =
    (r : Result (Unit {0}) OpenError) × Opens c session version r e × (opened r ≡ Some text) × (more ≡ given)
Prints c given (calls.Close session) text e more =
    (r : Result (Unit {0}) CloseError) × Closes c session r e × (closed r ≡ Some text) × (more ≡ given)
Prints c given (calls.Track seat key change now) text e more =
    (r : Result Reply TrackError) × Tracks c seat key change now r e × (tracked (definition_of e) key r ≡ Some text) × (more ≡ given)
Prints c given (calls.Learn session u now) text e more =
    (r : Result Reply LearnError) × Learns c session u now r e × (learned (definition_of e) u.key r ≡ Some text) × (more ≡ given)
Prints c given (calls.Copy session kind limit now) text e more =
    (r : Result (List Update) CopyError) × Copies c session kind limit now r e
    × (copied (definition_of e) (length given + 1) r ≡ Some text) × (more ≡ with_batch given r)
Prints c given (calls.Settle session place) text e more =
    (us : List Update) × (r : Result (Unit {0}) StrangeBatch) × (batch_at given place ≡ Some us) × Settles c session us r
    × (settled r ≡ Some text) × (e ≡ c) × (more ≡ given)
Prints c given (calls.Ack session number) text e more =
    (r : Result Settled AckError) × Acknowledges c session number r e × (acknowledged r ≡ Some text) × (more ≡ given)
Prints c given (calls.Purge now) text e more =
    (r : Result ℕ PurgeError) × Purges c now r e × (purged r ≡ Some text) × (more ≡ given)
Prints c given calls.Checkpoint text e more =
    (r : Result (Unit {0}) CheckpointError) × Checkpoints c r e × (begun_anew r ≡ Some text) × (more ≡ given)
Prints c given calls.Slide text e more =
    (hs : List (CellEvent × CellReply)) × Slides c hs e × (text ≡ dropped_line (length hs)) × (more ≡ given)
Prints c given calls.Renumber text e more =
    (r : Result (Unit {0}) RenumberError) × Renumbers c r e × (renumbered r ≡ Some text) × (more ≡ given)
Prints c given calls.Events text e more = (text ≡ events_line (events_of c) (room_of c)) × (e ≡ c) × (more ≡ given)
Prints c given (calls.Event place) text e more = (text ≡ event_line (definition_of c) (event_in c place)) × (e ≡ c) × (more ≡ given)
Prints c given calls.Rows text e more =
    (rows : List (Key × StoredRow)) × AreInRisingKey c.state.rows rows × (text ≡ rows_lines (definition_of c) rows) × (e ≡ c) × (more ≡ given)

-- ---- a script

-- the calls, each with the number of its line, print the text, and leave `e`
abbrev pub PrintAll : CellState → List (List Update) → List (ℕ × Call) → List ℕ → CellState → Type 0
PrintAll c given [] text e = (text ≡ []) × (e ≡ c)
PrintAll c given (call ∷ calls) text e =
    (one rest : List ℕ) × (mid : CellState) × (more : List (List Update))
    × (text ≡ one ++ rest) × Prints c given call.1 one mid more × PrintAll mid more calls rest e

-- the new table of a script: of at most 1,000,000 rows, and with the first number 1, unless a line says otherwise
abbrev pub cell_of : ScriptTable → CellState
cell_of t = new_cell t.definition (unwrap_or t.size 1000000) (is_some t.nopurge) (unwrap_or t.first 1)

-- no line of the script is refused, and its calls print the text
unfoldable pub IsPrinted : Script → List ℕ → Type 0
IsPrinted s text = (e : CellState) × (s.refused ≡ None) × PrintAll (cell_of s.table) [] s.calls.items text e

-- how `table` may end: with Done, and some script without a refused line is run to its end; at a refused line, whose number is at
-- least 1; or early for another reason
abbrev pub EndsTable : Ending → Type 0
EndsTable endings.Done = (script : Script) × (text : List ℕ) × IsPrinted script text
EndsTable (endings.Line number) = 1 ≤ number
EndsTable ending = IsEarly ending
