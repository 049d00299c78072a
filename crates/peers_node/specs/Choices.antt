-- The names of the choices of a command line.
use Rattle.std.specs.Prelude.{ℕ, List, codes}
use Rattle.peers_node.specs.declared.choice.Options.{Options}
use Rattle.peers_node.specs.declared.choice.Options.TheVariants.{Lesson, Check, Learn, Table, World, Run, Round, Serve, Join}

-- the name of the subcommand
abbrev pub name_of : Options → List ℕ
name_of Lesson = codes "lesson"
name_of Check = codes "check"
name_of Learn = codes "learn"
name_of Table = codes "table"
name_of World = codes "world"
name_of (Run checks) = codes "run"
name_of (Round threads tracks rounds) = codes "round"
name_of (Serve link) = codes "serve"
name_of (Join link) = codes "join"

-- no option of the subcommand has a value
abbrev pub TakesNone : Options → Type 0
TakesNone (Run checks) = ⊥
TakesNone (Round threads tracks rounds) = ⊥
TakesNone (Serve link) = ⊥
TakesNone (Join link) = ⊥
TakesNone chosen = Unit {0}
