-- How a subcommand ends (profile).
use Rattle.std.specs.Prelude.{◌++◌, ℕ, List, [], codes}
use Rattle.std.specs.Fmt.{decimal}
use Rattle.learner.specs.Faults.{fault_name}
use Rattle.known_state.specs.declared.known.KnownError.{KnownError}
use Rattle.known_state.specs.declared.known.KnownError.TheVariants as known
use Rattle.peers_devices.specs.declared.input.ReadError.{ReadError}
use Rattle.peers_devices.specs.declared.input.ReadError.TheVariants as input
use Rattle.node_text.specs.declared.error.SceneError.{SceneError}
use Rattle.node_text.specs.declared.error.SceneError.TheVariants as scenes
use Rattle.table_types.specs.declared.batch.BatchError.{BatchError}
use Rattle.table_types.specs.declared.batch.BatchError.TheVariants as batches
use Rattle.table_types.specs.declared.roster.RosterError.{RosterError}
use Rattle.table_types.specs.declared.roster.RosterError.TheVariants as rosters
use Rattle.text_commands.specs.declared.endings.Ending.{Ending}
use Rattle.text_commands.specs.declared.endings.Ending.TheVariants.{Done, Line, Scene, Configuration, Stream, NotShortest, Strange, Unasked, Memory, Device}

-- the exit status
abbrev pub status_of : Ending → ℕ
status_of Done = 0
status_of (Line number) = 1
status_of Scene = 1
status_of Configuration = 1
status_of (Stream fault) = 1
status_of NotShortest = 1
status_of Strange = 1
status_of Unasked = 1
status_of Memory = 3
status_of Device = 4

-- the line of an ending
abbrev pub line_of : Ending → List ℕ
line_of Done = []
line_of (Line number) = codes "line " ++ (decimal number ++ codes ": refused\n")
line_of Scene = codes "scene: refused\n"
line_of Configuration = []
line_of (Stream fault) = codes "fault " ++ (fault_name fault ++ codes "\n")
line_of NotShortest = []
line_of Strange = codes "fault Strange\n"
line_of Unasked = codes "fault Unasked\n"
line_of Memory = codes "memory\n"
line_of Device = codes "device\n"

-- a subcommand that reads a scene or a script ended before it printed anything
abbrev pub IsEarly : Ending → Type 0
IsEarly Done = ⊥
IsEarly Configuration = ⊥
IsEarly (Stream fault) = ⊥
IsEarly NotShortest = ⊥
IsEarly Strange = ⊥
IsEarly Unasked = ⊥
IsEarly ending = Unit {0}

-- ---- the ending by each error

abbrev pub of_input : ReadError → Ending
of_input input.Failed = Device
of_input input.Endless = Device
of_input input.Memory = Memory

abbrev pub of_scene : SceneError → Ending
of_scene (scenes.Line number) = Line number
of_scene scenes.Scene = Scene
of_scene scenes.Memory = Memory

abbrev pub of_roster : RosterError → Ending
of_roster rosters.Memory = Memory
of_roster _ = Scene

abbrev pub of_batch : BatchError → Ending
of_batch batches.Memory = Memory
of_batch _ = Scene

abbrev pub of_known : KnownError → Ending
of_known known.Memory = Memory
of_known _ = Scene
