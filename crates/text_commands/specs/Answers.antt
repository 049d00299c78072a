-- The lines that are printed of what a table returns (profile).
use Rattle.std.specs.Prelude.{◌≡◌, ◌++◌, ℕ, List, [], ◌∷◌, Option, Some, None, Result, Ok, Err, codes, flat_map, length, option_map}
use Rattle.std.specs.Fmt.{decimal}
use Rattle.table_types.specs.declared.key.Key.{Key}
use Rattle.table_types.specs.declared.copies.Settled.{Settled}
use Rattle.table_types.specs.declared.update.Update.{Update}
use Rattle.table_types.specs.Rows.{StoredRow}
use Rattle.table_types.specs.Tables.{Definition}
use Rattle.table_cell.specs.declared.events.Reply.{Reply}
use Rattle.table_cell.specs.declared.events.CellEvent.{CellEvent}
use Rattle.table_cell.specs.declared.events.CellReply.{CellReply}
use Rattle.table_cell.specs.declared.errors.TrackError.{TrackError}
use Rattle.table_cell.specs.declared.errors.LearnError.{LearnError}
use Rattle.table_cell.specs.declared.errors.CopyError.{CopyError}
use Rattle.table_cell.specs.declared.errors.AckError.{AckError}
use Rattle.table_cell.specs.declared.errors.StrangeBatch.{StrangeBatch}
use Rattle.table_cell.specs.declared.errors.OpenError.{OpenError}
use Rattle.table_cell.specs.declared.errors.CloseError.{CloseError}
use Rattle.table_cell.specs.declared.errors.PurgeError.{PurgeError}
use Rattle.table_cell.specs.declared.errors.CheckpointError.{CheckpointError}
use Rattle.table_cell.specs.declared.errors.RenumberError.{RenumberError}
use Rattle.node_text.specs.Events.{event_text}
use Rattle.node_text.specs.Refusals.{ack_refusal, checkpoint_refusal, close_refusal, copy_refusal, learn_refusal, open_refusal, purge_refusal, renumber_refusal, track_refusal}
use Rattle.node_text.specs.Replies.{event_reply_text, reply_text, settled_name}
use Rattle.node_text.specs.Rows.{stored_row_text}
use Rattle.node_text.specs.Updates.{update_line}

-- ---- lines

-- words, and LF (10)
abbrev pub line : List ℕ → List ℕ
line words = words ++ 10 ∷ []

-- the line of a refusal's name; out of memory has none, since it ends the program
abbrev pub refused : Option (List ℕ) → Option (List ℕ)
refused name = option_map line name

-- these lines exist, and are appended to the text
abbrev pub Adds : Option (List ℕ) → List ℕ → List ℕ → Type 0
Adds lines before after = (text : List ℕ) × (lines ≡ Some text) × (after ≡ before ++ text)

-- ---- what is printed of each call that changes the table

abbrev pub opened : Result (Unit {0}) OpenError → Option (List ℕ)
opened (Ok done) = Some (line (codes "ok"))
opened (Err error) = refused (open_refusal error)

abbrev pub closed : Result (Unit {0}) CloseError → Option (List ℕ)
closed (Ok done) = Some (line (codes "ok"))
closed (Err error) = refused (close_refusal error)

abbrev pub tracked : Definition → Key → Result Reply TrackError → Option (List ℕ)
tracked table key (Ok reply) = Some (line (reply_text table key reply))
tracked table key (Err error) = refused (track_refusal error)

abbrev pub learned : Definition → Key → Result Reply LearnError → Option (List ℕ)
learned table key (Ok reply) = Some (line (reply_text table key reply))
learned table key (Err error) = refused (learn_refusal error)

-- the batch's place among those of the script, the number of its updates, and a line for each update
abbrev pub batch_lines : Definition → ℕ → List Update → List ℕ
batch_lines table place us =
    codes "batch " ++ (decimal place ++ (32 ∷ (decimal (length us) ++ (10 ∷ flat_map (update_line table) us))))

abbrev pub copied : Definition → ℕ → Result (List Update) CopyError → Option (List ℕ)
copied table place (Ok us) = Some (batch_lines table place us)
copied table place (Err error) = refused (copy_refusal error)

abbrev pub settled : Result (Unit {0}) StrangeBatch → Option (List ℕ)
settled (Ok done) = Some (line (codes "ok"))
settled (Err error) = Some (line (codes "StrangeBatch"))

abbrev pub acknowledged : Result Settled AckError → Option (List ℕ)
acknowledged (Ok answer) = Some (line (settled_name answer))
acknowledged (Err error) = refused (ack_refusal error)

abbrev pub purged : Result ℕ PurgeError → Option (List ℕ)
purged (Ok count) = Some (line (codes "purged " ++ decimal count))
purged (Err error) = refused (purge_refusal error)

abbrev pub begun_anew : Result (Unit {0}) CheckpointError → Option (List ℕ)
begun_anew (Ok done) = Some (line (codes "ok"))
begun_anew (Err error) = refused (checkpoint_refusal error)

abbrev pub renumbered : Result (Unit {0}) RenumberError → Option (List ℕ)
renumbered (Ok done) = Some (line (codes "ok"))
renumbered (Err error) = refused (renumber_refusal error)

-- how many events a slide dropped
abbrev pub dropped_line : ℕ → List ℕ
dropped_line count = line (codes "dropped " ++ decimal count)

-- ---- what is read of the table

-- the number of events, and how many more may come
abbrev pub events_line : ℕ → ℕ → List ℕ
events_line events room = codes "events " ++ (decimal events ++ (codes " room " ++ (decimal room ++ 10 ∷ [])))

-- an event with its reply
abbrev pub event_line : Definition → Option (CellEvent × CellReply) → List ℕ
event_line table None = codes "none\n"
event_line table (Some h) = event_text table h.0 ++ (codes " = " ++ (event_reply_text table h.0 h.1 ++ 10 ∷ []))

-- the line of a row
abbrev pub stored_row_line : Definition → Key × StoredRow → List ℕ
stored_row_line table entry = codes "row " ++ (stored_row_text table entry ++ 10 ∷ [])

-- the number of rows, and a line for each
abbrev pub rows_lines : Definition → List (Key × StoredRow) → List ℕ
rows_lines table rows = codes "rows " ++ (decimal (length rows) ++ (10 ∷ flat_map (stored_row_line table) rows))
