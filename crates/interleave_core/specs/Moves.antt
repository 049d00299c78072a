-- What each step does to the world (profile). A step that can't be made changes nothing.
use Rattle.std.specs.Prelude.{◌≡◌, ◌≢◌, ℕ, Bool, false, ◌&&◌, nat_le, MatchBool, is_none, List, [], ◌∷◌, ◌++◌, drop, filter_map, length, take, Option, Some, None, option_and_then, option_map, Result, Ok, Err, if◌then◌else◌}
use Rattle.std.specs.List.{list_any}
use Rattle.table_types.specs.declared.copies.CopyKind.{CopyKind}
use Rattle.table_types.specs.declared.copies.CopyKind.TheVariants as kinds
use Rattle.table_types.specs.declared.update.Update.{Update}
use Rattle.table_types.specs.declared.version.Version.{Version}
use Rattle.table_types.specs.Tables.{Definition}
use Rattle.peers_msg.specs.Integers.{IsBytes}
use Rattle.peers_msg.specs.declared.message.Message.{Message}
use Rattle.peers_msg.specs.Decoding.{AreRead}
use Rattle.peers_msg.specs.Reading.{message_at}
use Rattle.peers_msg.specs.Received.{Received, nothing_received}
use Rattle.peers_msg.specs.Spelling.{stream_of}
use Rattle.known_state.specs.Known.{KnownState}
use Rattle.learner.specs.Intake.{answer_of, due_acks}
use Rattle.learner.specs.Learning.{AreLearned, IsWaiting, Learning, with_piece}
use Rattle.session_core.specs.Acks.{ack_of}
use Rattle.teach_writer.specs.Lessons.{IsShortestLesson}
use Rattle.table_cell.specs.declared.errors.CopyError.{CopyError}
use Rattle.table_cell.specs.declared.errors.CopyError.TheVariants as uncopied
use Rattle.table_cell.specs.declared.errors.LearnError.TheVariants as unlearned
use Rattle.table_cell.specs.declared.errors.PurgeError.TheVariants as unpurged
use Rattle.table_cell.specs.declared.errors.TrackError.TheVariants as untracked
use Rattle.table_cell.specs.declared.events.CellEvent.TheVariants as events
use Rattle.table_cell.specs.declared.events.CellReply.TheVariants as replies
use Rattle.table_cell.specs.Histories.{CellState, Copies, Learns, Purges, Tracks, is_history_full}
use Rattle.table_cell.specs.Machine.{ack_refusal, acknowledging, close_refusal, has_out, open_refusal, progress_of, settled_by, with_progress}
use Rattle.interleave_core.specs.declared.step.Step.{Step}
use Rattle.interleave_core.specs.declared.step.Step.TheVariants as steps
use Rattle.interleave_core.specs.declared.way.Way.TheVariants as ways
use Rattle.interleave_core.specs.Worlds.{ConnectionState, WorldState, cell_at, connection_at, new_connection, roster_of, with_cell, with_connection, with_session, without_session}

-- ---- one table

-- a call makes an event, or is refused and leaves the table as it was; memory doesn't run out
abbrev pub Calls : {A E : Type 0} → (CellState → Result A E → CellState → Type 0) → E → CellState → CellState → Type 0
Calls {A} {E} call memory c e = (answer : Result A E) × (answer ≢ Err memory) × call c answer e

-- the table, if there is one, changes as the call says, and no other does
abbrev pub InTable : (CellState → CellState → Type 0) → ℕ → Option CellState → List CellState → List CellState → Type 0
InTable call table None cells after = after ≡ cells
InTable call table (Some c) cells after = (changed : CellState) × call c changed × (after ≡ with_cell table changed cells)

abbrev pub AtTable : (CellState → CellState → Type 0) → ℕ → WorldState → WorldState → Type 0
AtTable call table w e =
    (after : List CellState) × InTable call table (cell_at table w.cells) w.cells after × (e ≡ record w { cells = after })

-- ---- one connection

-- the connection, if there is one, changes as `change` says, and no other does
abbrev pub InConnection : (ConnectionState → ConnectionState → Type 0) → ℕ → Option ConnectionState → List ConnectionState → List ConnectionState → Type 0
InConnection change session None connections after = after ≡ connections
InConnection change session (Some s) connections after =
    (changed : ConnectionState) × change s changed × (after ≡ with_connection session changed connections)

abbrev pub AtConnection : (ConnectionState → ConnectionState → Type 0) → ℕ → WorldState → WorldState → Type 0
AtConnection change session w e =
    (after : List ConnectionState) × InConnection change session (connection_at session w.connections) w.connections after
    × (e ≡ record w { connections = after })

-- ---- learning, copying and teaching

-- the session, if it is there, learns the update
abbrev pub LearnsFor : ℕ → Update → ℕ → Option ConnectionState → WorldState → WorldState → Type 0
LearnsFor session u now None w e = e ≡ w
LearnsFor session u now (Some s) w e = AtTable (Calls (λ c r x. Learns c session u now r x) unlearned.Memory) u.table w e

-- the batches that wait, with the new one, unless the copy is refused
abbrev pub with_batch : List (List Update) → Result (List Update) CopyError → List (List Update)
with_batch copied (Ok batch) = copied ++ batch ∷ []
with_batch copied (Err error) = copied

-- whether a world makes this copy: one of 1 to 4,096 rows, and no standing resync
abbrev pub is_made : CopyKind → ℕ → Bool
is_made kinds.Push limit = nat_le 1 limit && nat_le limit 4096
is_made kinds.Resync limit = nat_le 1 limit && nat_le limit 4096
is_made kinds.Standing limit = false

abbrev pub CopiesFor : ℕ → ℕ → CopyKind → ℕ → ℕ → Option CellState → Option ConnectionState → WorldState → WorldState → Type 0
CopiesFor session table kind limit now (Some c) (Some s) w e =
    (answer : Result (List Update) CopyError) × (after : CellState)
    × (answer ≢ Err uncopied.Memory) × Copies c session kind limit now answer after
    × (e ≡ record { cells = with_cell table after w.cells; connections = with_connection session (record s { copied = with_batch s.copied answer }) w.connections })
CopiesFor session table kind limit now cell connection w e = e ≡ w

-- the oldest batch that waits, if there is one, is taught by a shortest lesson
abbrev pub TeachesOldest : List (List Update) → ConnectionState → ConnectionState → Type 0
TeachesOldest [] s e = e ≡ s
TeachesOldest (batch ∷ rest) s e =
    (bytes : List ℕ) × (after : KnownState) × IsBytes bytes × IsShortestLesson s.known batch bytes after
    × (e ≡ record s { known = after; copied = rest; taught = s.taught ++ batch; to_learner = s.to_learner ++ bytes })

-- ---- deliveries

-- the learner is fed the piece: it learns the messages that are then whole, and puts the updates of local tables among them
abbrev pub IsFed : ℕ → List ℕ → List ℕ → ConnectionState → ConnectionState → Type 0
IsFed now piece rest s e =
    (ms : List Message) × (us : List Update) × (after : Learning)
    × AreLearned now (with_piece s.learner piece) ms us after × IsWaiting after.intake
    × (e ≡ record s { applied = s.applied ++ us; to_learner = rest; learner = after })

-- the first `count` bytes arrive at the learner, if there are as many
abbrev pub ArrivesAtLearner : ℕ → ℕ → ConnectionState → ConnectionState → Type 0
ArrivesAtLearner count now s e =
    MatchBool (nat_le count (length s.to_learner)) (IsFed now (take count s.to_learner) (drop count s.to_learner) s e) (e ≡ s)

-- the table and the number of an acknowledgement of a table of the roster
abbrev pub ack_in : List Definition → Message → Option (ℕ × ℕ)
ack_in roster m = ack_of roster (answer_of m)

-- the table after an acknowledgement, unless the table refuses it
abbrev pub acked : ℕ → ℕ → CellState → Option CellState
acked session number c =
    if is_none (ack_refusal (is_history_full c) c.state session number)
    then Some (record c { history = c.history ++ (events.Ack session number, replies.Ack (settled_by (progress_of session c.state) number)) ∷ []; state = record c.state { sessions = with_progress session (acknowledging number) c.state.sessions } })
    else None

-- the tables after acknowledgements, made one after another, unless one of them is refused
abbrev pub acked_all : ℕ → List (ℕ × ℕ) → List CellState → Option (List CellState)
acked_all session [] cells = Some cells
acked_all session (ack ∷ acks) cells =
    option_and_then (λ c. acked_all session acks (with_cell ack.0 c cells)) (option_and_then (acked session ack.1) (cell_at ack.0 cells))

-- the bytes have arrived; if a table refuses an acknowledgement among them, nothing has
abbrev pub IsArrived : ℕ → List ℕ → List ℕ → Option (List CellState) → ConnectionState → WorldState → WorldState → Type 0
IsArrived session rest left None s w e = e ≡ w
IsArrived session rest left (Some cells) s w e =
    e ≡ record { cells = cells; connections = with_connection session (record s { to_teacher = rest; unread = left }) w.connections }

-- the whole messages in these bytes are read, and the acknowledgements among them made
abbrev pub IsReadBy : ℕ → List ℕ → List ℕ → ConnectionState → WorldState → WorldState → Type 0
IsReadBy session bytes rest s w e =
    (ms : List Message) × (received : Received) × (left : List ℕ)
    × AreRead nothing_received bytes ms received left × (message_at received left ≡ Ok None)
    × IsArrived session rest left (acked_all session (filter_map (ack_in (roster_of w.cells)) ms) w.cells) s w e

-- the first `count` bytes arrive at the teacher, if there are as many
abbrev pub ArrivesAtTeacher : ℕ → ℕ → Option ConnectionState → WorldState → WorldState → Type 0
ArrivesAtTeacher session count None w e = e ≡ w
ArrivesAtTeacher session count (Some s) w e =
    MatchBool (nat_le count (length s.to_teacher))
    (IsReadBy session (s.unread ++ take count s.to_teacher) (drop count s.to_teacher) s w e)
    (e ≡ w)

-- the due acknowledgements go into the pipe, and none is due any more
abbrev pub acknowledges : ConnectionState → ConnectionState
acknowledges s =
    record s { to_teacher = s.to_teacher ++ stream_of (due_acks s.learner.intake); learner = record s.learner { intake = record s.learner.intake { due = [] } } }

-- ---- new connections

-- the table after the session is closed in it, and after it is opened in it, unless the table refuses that
abbrev pub closed : ℕ → CellState → Option CellState
closed session c =
    if is_none (close_refusal (is_history_full c) c.state session) then Some (without_session session c) else None

abbrev pub opened : ℕ → Version → CellState → Option CellState
opened session version c =
    if is_none (open_refusal (is_history_full c) c.state session) then Some (with_session session version c) else None

-- the tables after the session is closed in each and opened with its version, unless one refuses that
abbrev pub reopened_all : ℕ → Version → List CellState → Option (List CellState)
reopened_all session version [] = Some []
reopened_all session version (c ∷ cs) =
    option_and_then (λ first. option_map (λ rest. first ∷ rest) (reopened_all session version cs)) (option_and_then (opened session version) (closed session c))

abbrev pub IsReopened : Option (List CellState) → (List CellState → WorldState) → WorldState → WorldState → Type 0
IsReopened None after w e = e ≡ w
IsReopened (Some cells) after w e = e ≡ after cells

-- the session begins anew, with the same version and a new learner, and nothing is on its way
abbrev pub Breaks : ℕ → Option ConnectionState → WorldState → WorldState → Type 0
Breaks session None w e = e ≡ w
Breaks session (Some s) w e =
    IsReopened (reopened_all session s.version w.cells)
    (λ cells. record { cells = cells; connections = with_connection session (new_connection s.version (roster_of w.cells)) w.connections }) w e

-- the session is opened anew in each table, unless a batch of it is out
abbrev pub Reopens : ℕ → Option ConnectionState → WorldState → WorldState → Type 0
Reopens session None w e = e ≡ w
Reopens session (Some s) w e =
    MatchBool (list_any (λ c. has_out (progress_of session c.state)) w.cells) (e ≡ w)
    (IsReopened (reopened_all session s.version w.cells) (λ cells. record w { cells = cells }) w e)

-- ---- all steps

abbrev pub Moves : WorldState → Step → WorldState → Type 0
Moves w (steps.Track table key change now) e = AtTable (Calls (λ c r x. Tracks c 0 key change now r x) untracked.Memory) table w e
Moves w (steps.Learn session u now) e = LearnsFor session u now (connection_at session w.connections) w e
Moves w (steps.Copy session table kind limit now) e =
    MatchBool (is_made kind limit)
    (CopiesFor session table kind limit now (cell_at table w.cells) (connection_at session w.connections) w e)
    (e ≡ w)
Moves w (steps.Teach session) e = AtConnection (λ s x. TeachesOldest s.copied s x) session w e
Moves w (steps.Deliver session ways.ToLearner count now) e = AtConnection (ArrivesAtLearner count now) session w e
Moves w (steps.Deliver session ways.ToTeacher count now) e = ArrivesAtTeacher session count (connection_at session w.connections) w e
Moves w (steps.Ack session) e = AtConnection (λ s x. x ≡ acknowledges s) session w e
Moves w (steps.Break session) e = Breaks session (connection_at session w.connections) w e
Moves w (steps.Reopen session) e = Reopens session (connection_at session w.connections) w e
Moves w (steps.Purge table now) e = AtTable (Calls (λ c r x. Purges c now r x) unpurged.Memory) table w e

-- the steps are made one after another
abbrev pub RunsTo : WorldState → List Step → WorldState → Type 0
RunsTo w [] e = e ≡ w
RunsTo w (step ∷ steps) e = (mid : WorldState) × Moves w step mid × RunsTo mid steps e
