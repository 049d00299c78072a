-- What `world` prints, and how it ends (profile). It makes the script's steps in turn, and answers each question about the
-- world as the steps before it left it.
use Rattle.std.specs.Prelude.{◌≡◌, ◌≤◌, ◌++◌, ℕ, List, [], ◌∷◌, Option, Some, None, codes, length, map}
use Rattle.std.specs.Fmt.{decimal}
use Rattle.std.specs.List.Sorted.{IsStrictlySortedBy}
use Rattle.std.specs.Map.{keys_of}
use Rattle.table_types.specs.declared.key.Key.{Key}
use Rattle.table_types.specs.Keys.{key_cmp}
use Rattle.table_types.specs.Rows.{StoredRow}
use Rattle.learner.specs.Rows.{rows_at}
use Rattle.table_cell.specs.Histories.{CellState, events_of, room_of}
use Rattle.table_cell.specs.Stock.{AreInRisingKey}
use Rattle.interleave_core.specs.declared.step.Step.{Step}
use Rattle.interleave_core.specs.declared.step.Step.TheVariants as steps
use Rattle.interleave_core.specs.declared.way.Way.TheVariants as ways
use Rattle.interleave_core.specs.Moves.{Moves}
use Rattle.interleave_core.specs.Worlds.{ConnectionState, WorldState, cell_at, connection_at, new_world}
use Rattle.node_text.specs.declared.world_lines.WorldLine.{WorldLine}
use Rattle.node_text.specs.declared.world_lines.WorldLine.TheVariants as lines
use Rattle.node_text.specs.declared.world_lines.WorldStep.{WorldStep}
use Rattle.node_text.specs.declared.world_lines.WorldStep.TheVariants as said
use Rattle.node_text.specs.declared.world_lines.WorldQuestion.{WorldQuestion}
use Rattle.node_text.specs.declared.world_lines.WorldQuestion.TheVariants as questions
use Rattle.node_text.specs.declared.worlds.WorldScript.{WorldScript}
use Rattle.node_text.specs.Worlds.{IsWorldScript, versions_of}
use Rattle.text_commands.specs.Answers.{events_line, rows_lines}
use Rattle.text_commands.specs.Endings.{IsEarly}
use Rattle.text_commands.specs.Running.{cell_of, definition_of}
use Rattle.text_commands.specs.declared.endings.Ending.{Ending}
use Rattle.text_commands.specs.declared.endings.Ending.TheVariants as endings

-- ---- steps

-- the world's step that a line says
abbrev pub step_of : WorldStep → Step
step_of (said.Track table key change now) = steps.Track table key change now
step_of (said.Learn session u now) = steps.Learn session u now
step_of (said.Copy session table kind limit now) = steps.Copy session table kind limit now
step_of (said.Teach session) = steps.Teach session
step_of (said.DeliverToLearner session count now) = steps.Deliver session ways.ToLearner count now
step_of (said.DeliverToTeacher session count now) = steps.Deliver session ways.ToTeacher count now
step_of (said.Ack session) = steps.Ack session
step_of (said.Break session) = steps.Break session
step_of (said.Reopen session) = steps.Reopen session
step_of (said.Purge table now) = steps.Purge table now

-- ---- answers

-- how many batches wait to be taught, how many updates were taught and applied since the connection began, and how many
-- bytes are on their way to the learner and to the teacher
abbrev pub AreCounts : ConnectionState → ℕ → ℕ → ℕ → ℕ → ℕ → Type 0
AreCounts s copied taught applied learner teacher =
    (copied ≡ length s.copied) × (taught ≡ length s.taught) × (applied ≡ length s.applied)
    × (learner ≡ length s.to_learner) × (teacher ≡ length s.to_teacher)

-- the line of a session with these counts
abbrev pub session_line : ℕ → ℕ → ℕ → ℕ → ℕ → ℕ → List ℕ
session_line session copied taught applied learner teacher =
    codes "session " ++ (decimal session ++ (codes " copied " ++ (decimal copied ++ (codes " taught " ++ (decimal taught ++ (codes " applied " ++ (decimal applied
    ++ (codes " learner " ++ (decimal learner ++ (codes " teacher " ++ (decimal teacher ++ 10 ∷ [])))))))))))

-- the answer about a session, about a table's rows, about the rows that a session's learner has of a table, both in ascending
-- order of key, and about a table's events; there is none about what isn't there
abbrev pub AnswersSession : ℕ → Option ConnectionState → List ℕ → Type 0
AnswersSession session None text = text ≡ []
AnswersSession session (Some s) text =
    text ≡ session_line session (length s.copied) (length s.taught) (length s.applied) (length s.to_learner) (length s.to_teacher)

abbrev pub AnswersRows : Option CellState → List ℕ → Type 0
AnswersRows None text = text ≡ []
AnswersRows (Some c) text = (rows : List (Key × StoredRow)) × AreInRisingKey c.state.rows rows × (text ≡ rows_lines (definition_of c) rows)

abbrev pub AnswersLearner : ℕ → Option ConnectionState → Option CellState → List ℕ → Type 0
AnswersLearner table (Some s) (Some c) text =
    (rows : List (Key × StoredRow)) × (rows ≡ rows_at s.learner.intake.roster table s.learner.rows) × IsStrictlySortedBy key_cmp (keys_of rows)
    × (text ≡ rows_lines (definition_of c) rows)
AnswersLearner table s c text = text ≡ []

abbrev pub AnswersEvents : Option CellState → List ℕ → Type 0
AnswersEvents None text = text ≡ []
AnswersEvents (Some c) text = text ≡ events_line (events_of c) (room_of c)

abbrev pub Answers : WorldState → WorldQuestion → List ℕ → Type 0
Answers w (questions.Session session) text = AnswersSession session (connection_at session w.connections) text
Answers w (questions.Rows table) text = AnswersRows (cell_at table w.cells) text
Answers w (questions.Learner session table) text = AnswersLearner table (connection_at session w.connections) (cell_at table w.cells) text
Answers w (questions.Events table) text = AnswersEvents (cell_at table w.cells) text

-- ---- a script

-- a step changes the world and prints nothing; a question prints its answer and leaves the world as it was
abbrev pub PrintsLine : WorldState → WorldLine → List ℕ → WorldState → Type 0
PrintsLine w (lines.Step step) text e = (text ≡ []) × Moves w (step_of step) e
PrintsLine w (lines.Question question) text e = Answers w question text × (e ≡ w)

-- the lines, in turn
abbrev pub PrintLines : WorldState → List WorldLine → List ℕ → WorldState → Type 0
PrintLines w [] text e = (text ≡ []) × (e ≡ w)
PrintLines w (line ∷ rest) text e =
    (one more : List ℕ) × (mid : WorldState) × (text ≡ one ++ more) × PrintsLine w line one mid × PrintLines mid rest more e

-- the script keeps the rules of scripts, and its lines print the text, in a new world of its tables and its sessions, each with its version
unfoldable pub IsWorldPrinted : WorldScript → List ℕ → Type 0
IsWorldPrinted s text = (e : WorldState) × IsWorldScript s × PrintLines (new_world (map cell_of s.tables.items) (versions_of s)) s.lines.items text e

-- how `world` may end: with Done, and some script is run to its end; at a refused line, whose number is at least 1; or early for
-- another reason
abbrev pub EndsWorld : Ending → Type 0
EndsWorld endings.Done = (script : WorldScript) × (text : List ℕ) × IsWorldPrinted script text
EndsWorld (endings.Line number) = 1 ≤ number
EndsWorld ending = IsEarly ending
