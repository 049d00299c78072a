-- Answers of one word, and those to requests for one row (profile).
use Rattle.std.specs.Prelude.{◌++◌, ℕ, Bool, false, List, [], ◌∷◌, Option, Some, None, Ok, Err, Result, codes, if◌then◌else◌}
use Rattle.std.specs.Option.{unwrap_or}
use Rattle.table_types.specs.declared.key.Key.{Key}
use Rattle.table_types.specs.Keys.{key_fits}
use Rattle.table_types.specs.Rosters.{is_same_name}
use Rattle.table_types.specs.Rows.{StoredRow}
use Rattle.table_types.specs.Tables.{Definition}
use Rattle.table_rows.specs.Rows.{is_live}
use Rattle.table_cell.specs.declared.errors.TrackError.{TrackError}
use Rattle.table_cell.specs.declared.events.Reply.{Reply}
use Rattle.node_text.specs.Refusals.{track_refusal}
use Rattle.node_text.specs.Replies.{reply_text}
use Rattle.node_text.specs.Rows.{row_line}
use Rattle.admin_port.specs.HttpRequests.{begins_http}
use Rattle.admin_port.specs.Pages.{too_many_clients}
use Rattle.admin_port.specs.RequestWords.{line_words}
use Rattle.admin_port.specs.declared.answers.Answer.{Answer}
use Rattle.admin_port.specs.declared.answers.Answer.TheVariants as answers

abbrev pub answer_word : Answer → List ℕ
answer_word answers.Done = codes "ok"
answer_word answers.Nothing = codes "none"
answer_word answers.NoTable = codes "NoTable"
answer_word answers.WrongKey = codes "WrongKey"
answer_word answers.Refused = codes "refused"
answer_word answers.Busy = codes "busy"
answer_word answers.End = codes "."

abbrev pub answer_line : Answer → List ℕ
answer_line answer = answer_word answer ++ 10 ∷ []

-- ---- lines that are no requests

-- the first of the words is this one
abbrev pub begins_with : List ℕ → List (List ℕ) → Bool
begins_with sought [] = false
begins_with sought (word ∷ _) = is_same_name word sought

-- the first word of the line is `show`
abbrev pub is_show : List ℕ → Bool
is_show line = begins_with (codes "show") (line_words line)

-- a listing is ended even then
abbrev pub refused_text : List ℕ → List ℕ
refused_text line = answer_line answers.Refused ++ (if is_show line then answer_line answers.End else [])

-- ---- clients that are too many

-- what a client is told that is too many and sent these bytes: `busy`, unless it speaks HTTP
abbrev pub too_many_text : List ℕ → List ℕ
too_many_text begun = if begins_http begun then too_many_clients else answer_line answers.Busy

-- ---- rows

-- the row that a change stored, or the name of its refusal; out of memory has none
abbrev pub tracked_text : Definition → Key → Result Reply TrackError → List ℕ
tracked_text table key (Ok reply) = reply_text table key reply ++ 10 ∷ []
tracked_text table key (Err error) = unwrap_or (track_refusal error) [] ++ 10 ∷ []

-- the line of a row that is live
abbrev pub live_text : Definition → Key → ℕ → Option StoredRow → List ℕ
live_text table key now None = answer_line answers.Nothing
live_text table key now (Some row) = if is_live now row then row_line table (key, row) else answer_line answers.Nothing

-- what is found at a key of the table's kind and length
abbrev pub found_text : Definition → Key → Option StoredRow → ℕ → List ℕ
found_text table key row now =
    if key_fits table.kind table.key_length key then live_text table key now row else answer_line answers.WrongKey
