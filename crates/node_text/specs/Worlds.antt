-- What the script of a world says (profile).
use Rattle.std.specs.Prelude.{◌≡◌, ◌≤◌, ◌==◌, ◌||◌, ℕ, Bool, true, false, List, [], ◌∷◌, Option, None, Some, IfSome, length, map, option_map}
use Rattle.std.specs.List.{AllByRecursion, list_any}
use Rattle.table_types.specs.Rosters.{has_id, is_same_name, repeats_id, repeats_name, roster_fault}
use Rattle.table_types.specs.Tables.{Definition}
use Rattle.table_types.specs.declared.version.Version.{Version}
use Rattle.table_types.specs.declared.version.Version.TheVariants as versions
use Rattle.node_text.specs.ScriptTables.{IsScriptTable}
use Rattle.node_text.specs.declared.script_tables.ScriptTable.{ScriptTable}
use Rattle.node_text.specs.declared.world_lines.WorldLine.{WorldLine}
use Rattle.node_text.specs.declared.world_lines.WorldLine.TheVariants as lines
use Rattle.node_text.specs.declared.world_lines.WorldQuestion.{WorldQuestion}
use Rattle.node_text.specs.declared.world_lines.WorldQuestion.TheVariants as questions
use Rattle.node_text.specs.declared.worlds.WorldScript.{WorldScript}

-- the tables without their settings
abbrev pub definitions : List ScriptTable → List Definition
definitions ts = map (λ t. t.definition) ts

-- two tables have one id or one name
abbrev pub are_alike : Definition → Definition → Bool
are_alike d e = d.id == e.id || is_same_name d.name e.name

-- one of the tables has the id or the name of this one
abbrev pub has_like : Definition → List Definition → Bool
has_like d ds = list_any (are_alike d) ds

-- the version of each session, in order: one session of 2.1, unless a line says otherwise
abbrev pub versions_or_one : Option (List Version) → List Version
versions_or_one None = versions.V21 ∷ []
versions_or_one (Some vs) = vs

abbrev pub versions_of : WorldScript → List Version
versions_of s = versions_or_one (option_map (λ vs. vs.items) s.versions)

-- the number of sessions
abbrev pub session_count : WorldScript → ℕ
session_count s = length (versions_of s)

-- the question is about one of `count` sessions and one of the tables
abbrev pub IsAnswerable : ℕ → List Definition → WorldQuestion → Type 0
IsAnswerable count ds (questions.Session session) = (1 ≤ session) × (session ≤ count)
IsAnswerable count ds (questions.Rows table) = has_id table ds ≡ true
IsAnswerable count ds (questions.Learner session table) = ((1 ≤ session) × (session ≤ count)) × (has_id table ds ≡ true)
IsAnswerable count ds (questions.Events table) = has_id table ds ≡ true

-- a step, or such a question
abbrev pub IsAnswerableLine : ℕ → List Definition → WorldLine → Type 0
IsAnswerableLine count ds (lines.Step step) = Unit {0}
IsAnswerableLine count ds (lines.Question question) = IsAnswerable count ds question

-- what was read up to some line: at most 64 tables with distinct ids and names, whose settings are in their ranges, at most
-- one list of the versions of 1 to 16 sessions, and questions that can be answered
pub record IsWorldScriptSoFar (s : WorldScript) : Type 0 where
  pub most : length s.tables.items ≤ 64
  pub ids : repeats_id (definitions s.tables.items) ≡ false
  pub names : repeats_name (definitions s.tables.items) ≡ false
  pub tables : AllByRecursion IsScriptTable s.tables.items
  pub versions : IfSome s.versions (λ vs. (1 ≤ length vs.items) × (length vs.items ≤ 16))
  pub lines : AllByRecursion (IsAnswerableLine (session_count s) (definitions s.tables.items)) s.lines.items

-- the tables make a roster, their settings are in their ranges, there are 1 to 16 sessions, and each question is about a table
-- and a session that are there
pub record IsWorldScript (s : WorldScript) : Type 0 where
  pub roster : roster_fault (definitions s.tables.items) ≡ None
  pub tables : AllByRecursion IsScriptTable s.tables.items
  pub versions : IfSome s.versions (λ vs. (1 ≤ length vs.items) × (length vs.items ≤ 16))
  pub lines : AllByRecursion (IsAnswerableLine (session_count s) (definitions s.tables.items)) s.lines.items
