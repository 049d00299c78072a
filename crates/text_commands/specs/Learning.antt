-- What `learn` prints of a scene (profile).
use Rattle.std.specs.Prelude.{◌≡◌, ◌≢◌, ◌++◌, ℕ, List, Result, Ok, Err, Some, flat_map}
use Rattle.std.specs.List.Sorted.{IsNonDecreasingBy, IsPermutation}
use Rattle.table_types.specs.Rosters.{roster_fault}
use Rattle.table_types.specs.Tables.{Definition}
use Rattle.table_types.specs.declared.roster.RosterError.{RosterError}
use Rattle.learner.specs.declared.fault.Fault.{Fault}
use Rattle.learner.specs.declared.fault.Fault.TheVariants as faults
use Rattle.learner.specs.Intake.{due_acks}
use Rattle.learner.specs.Rows.{rows_at}
use Rattle.learner.specs.Learning.{LearnerFeeds, Learning, unlearned}
use Rattle.node_text.specs.Acks.{ack_line}
use Rattle.node_text.specs.Rows.{row_line}
use Rattle.node_text.specs.declared.scenes.Scene.{Scene}
use Rattle.text_commands.specs.Endings.{IsEarly}
use Rattle.text_commands.specs.declared.endings.Ending.{Ending}
use Rattle.text_commands.specs.declared.endings.Ending.TheVariants as endings

-- the lines of the rows of a table
abbrev pub table_lines : Learning → Definition → List ℕ
table_lines l table = flat_map (row_line table) (rows_at l.intake.roster table.id l.rows)

-- the lines of all rows, in the order of the tables
abbrev pub rows_text : Learning → List ℕ
rows_text l = flat_map (table_lines l) l.intake.roster

-- the lines of the acknowledgements that are due
abbrev pub acks_text : Learning → List ℕ
acks_text l = flat_map ack_line (due_acks l.intake)

-- the roster is `tables` in ascending order of id
abbrev pub AreInRisingId : List Definition → List Definition → Type 0
AreInRisingId tables roster = IsPermutation tables roster × IsNonDecreasingBy (λ d. d.id) roster

-- in that order the tables make no roster, for this reason
abbrev pub MakeNoRoster : List Definition → RosterError → Type 0
MakeNoRoster tables error = (sorted : List Definition) × AreInRisingId tables sorted × (roster_fault sorted ≡ Some error)

-- At the scene's moment, the scene's stream is fed to a new learner of the scene's tables in ascending order of id: it returns
-- `answer`, and is then `l`.
unfoldable pub IsLearned : Scene → Result ℕ Fault → Learning → Type 0
IsLearned scene answer l =
    (now : ℕ)
    × (roster : List Definition)
    × (scene.moment ≡ Some now)
    × AreInRisingId scene.tables.items roster
    × LearnerFeeds now (unlearned roster) scene.stream.items answer l

-- What is printed for a scene, and how the subcommand then ends: the rows and the acknowledgements that are due, or the rows so
-- far if the stream has a fault.
abbrev pub IsPrinted : Scene → List ℕ → Ending → Type 0
IsPrinted scene text endings.Done =
    (count : ℕ)
    × (l : Learning)
    × IsLearned scene (Ok count) l
    × (text ≡ rows_text l ++ acks_text l)
IsPrinted scene text (endings.Stream fault) =
    (l : Learning)
    × (fault ≢ faults.Memory)
    × IsLearned scene (Err fault) l
    × (text ≡ rows_text l)
IsPrinted scene text _ = ⊥

-- how `learn` may end: with Done or with the stream's fault, as the learner of some scene returns it; or early
abbrev pub EndsLearn : Ending → Type 0
EndsLearn endings.Done = (scene : Scene) × (count : ℕ) × (l : Learning) × IsLearned scene (Ok count) l
EndsLearn (endings.Stream fault) = (scene : Scene) × (l : Learning) × (fault ≢ faults.Memory) × IsLearned scene (Err fault) l
EndsLearn ending = IsEarly ending
