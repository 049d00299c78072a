-- What words choose: the program as clap sees it, and what clap meets in the words.
use Rattle.std.specs.Prelude.{◌≡◌, ◌≤◌, ℕ, Bool, pos, true, false, ◌⊎◌, List, [], Option, None, Some, codes, map}
use Rattle.std.specs.Borrow.{Bor}
use Rattle.std.specs.Str.Parse.{IsNumeral, digits_value, without_leading_plus}
use Rattle.clap.specs.Kinds.{HasKind, Kinds}
use Rattle.clap.specs.Words.{App, Row, Rule, fault_of, first_of, kind_of, new_app, new_rule, one_of, subcommand_of, with_rule, with_subcommand}
use Rattle.clap.specs.declared.builder.action.ArgAction.TheVariants as actions
use Rattle.clap.specs.declared.builder.value_parser.ValueParser.TheVariants as parsers
use Rattle.clap.specs.declared.error.kind.ErrorKind.{ErrorKind}
use Rattle.clap.specs.declared.error.kind.ErrorKind.TheVariants as kinds
use Rattle.table_types.specs.Names.{is_name}
use Rattle.node_commands.specs.declared.link.Link.{Link}
use Rattle.peers_node.specs.declared.choice.Options.{Options}
use Rattle.peers_node.specs.declared.choice.Options.TheVariants.{Run, Round, Serve, Join}
use Rattle.peers_node.specs.declared.command_line.Refusal.{Refusal}
use Rattle.peers_node.specs.declared.command_line.Refusal.TheVariants.{Parser, NoCommand, NoName}
use Rattle.peers_node.specs.declared.options_error.OptionsError.{OptionsError}
use Rattle.peers_node.specs.declared.options_error.OptionsError.TheVariants.{Words, Memory}
use Rattle.peers_node.specs.Choices.{name_of}

-- the texts of the words
abbrev pub texts : List (Bor (List ℕ)) → List (List ℕ)
texts words = map (λ word. word.now) words

-- ---- what clap meets in the words

-- the text writes that number, which is 1 to `most`: in digits, which a plus may precede
abbrev pub IsNumber : ℕ → ℕ → List ℕ → Type 0
IsNumber most number text =
    IsNumeral 10 (without_leading_plus text) × (digits_value 10 (without_leading_plus text) ≡ number) × (1 ≤ number) × (number ≤ most)

-- the option was met, with a text of `number`
abbrev pub HasNumber : List Row → List ℕ → ℕ → ℕ → Type 0
HasNumber rows option most number = (text : List ℕ) × (one_of option rows ≡ Some text) × IsNumber most number text

-- the option was met so, or it wasn't met, and the number is `otherwise`
abbrev pub HasNumberOr : List Row → List ℕ → ℕ → ℕ → ℕ → Type 0
HasNumberOr rows option most otherwise number = HasNumber rows option most number ⊎ ((first_of option rows ≡ None) × (number ≡ otherwise))

-- the option was met, with the name `name`
abbrev pub HasName : List Row → List ℕ → List ℕ → Type 0
HasName rows option name = (first_of option rows ≡ Some name) × (is_name name ≡ true)

-- the flag was met, or not
abbrev pub HasFlag : List Row → List ℕ → Bool → Type 0
HasFlag rows option true = first_of option rows ≡ Some (codes "true")
HasFlag rows option false = first_of option rows ≡ Some (codes "true") → ⊥

-- the options of a link were met
abbrev pub HasLink : List Row → Link → Type 0
HasLink rows link =
    HasNumber rows (codes "turns") 1000000 link.turns × HasNumber rows (codes "port") 65535 link.port
    × HasName rows (codes "name") link.name × HasName rows (codes "peer") link.peer

-- what clap met after the subcommand's name are the options
abbrev pub HasOptions : List Row → Options → Type 0
HasOptions rows (Run checks) = HasFlag rows (codes "check") checks
HasOptions rows (Round threads tracks rounds) =
    HasNumber rows (codes "threads") 8 threads × HasNumber rows (codes "tracks") 1000 tracks × HasNumberOr rows (codes "rounds") 100 1 rounds
HasOptions rows (Serve link) = HasLink rows link × HasNumberOr rows (codes "sessions") 16 1 link.sessions
HasOptions rows (Join link) = HasLink rows link × (link.sessions ≡ 1)
HasOptions rows chosen = Unit {0}

-- clap met this choice's subcommand, with its options
abbrev pub Meets : Option (List ℕ × List Row) → Options → Type 0
Meets None chosen = ⊥
Meets (Some met) chosen = (met.0 ≡ name_of chosen) × HasOptions met.1 chosen

-- ---- the program as clap sees it

-- with a version, and nothing without a subcommand
abbrev pub top : App
top = record { top = record (new_app (codes "peers_node")).top { has_version = true; subcommand_required = true; arg_required_else_help = true }; subs = [] }

-- with the subcommands that write or judge a stream
abbrev pub teaching : App
teaching = with_subcommand (with_subcommand top (new_app (codes "lesson")).top) (new_app (codes "check")).top

-- with all that read a scene
abbrev pub scenes : App
scenes = with_subcommand teaching (new_app (codes "learn")).top

-- and with the one that reads a script of one table
abbrev pub tables : App
tables = with_subcommand scenes (new_app (codes "table")).top

-- and with the one that reads a script of a world
abbrev pub scripts : App
scripts = with_subcommand tables (new_app (codes "world")).top

-- a required option, with a number from 1 to `most`
abbrev pub number_option : List ℕ → ℕ → Rule
number_option name most = record (new_rule name) { long = Some name; value_names = 1; parser = Some (parsers.Signed (pos 1) (pos most)); required = true }

-- an option that may be left out, with such a number
abbrev pub optional_number : List ℕ → ℕ → Rule
optional_number name most = record (new_rule name) { long = Some name; value_names = 1; parser = Some (parsers.Signed (pos 1) (pos most)) }

-- the subcommand that runs rounds, without their number
abbrev pub round : App
round = with_rule (with_rule (new_app (codes "round")) (number_option (codes "threads") 8)) (number_option (codes "tracks") 1000)

-- and with it
abbrev pub rounds : App
rounds = with_rule round (optional_number (codes "rounds") 100)

-- a required option, with any text
abbrev pub name_option : List ℕ → Rule
name_option name = record (new_rule name) { long = Some name; value_names = 1; required = true }

-- a subcommand with the numbers of a link
abbrev pub numbered : List ℕ → App
numbered name = with_rule (with_rule (new_app name) (number_option (codes "turns") 1000000)) (number_option (codes "port") 65535)

-- a subcommand with the options of a link
abbrev pub meeting : List ℕ → App
meeting name = with_rule (with_rule (numbered name) (name_option (codes "name"))) (name_option (codes "peer"))

-- the subcommand that waits for other nodes
abbrev pub serving : App
serving = with_rule (meeting (codes "serve")) (optional_number (codes "sessions") 16)

-- the subcommand that runs a node, with its one option, a flag
abbrev pub running : App
running =
    with_rule (new_app (codes "run"))
    (record (new_rule (codes "check")) { long = Some (codes "check"); action = Some actions.SetTrue })

-- the program with all subcommands that need no other node
abbrev pub alone : App
alone = with_subcommand (with_subcommand scripts rounds.top) running.top

-- and with those that meet one
abbrev pub program : App
program = with_subcommand (with_subcommand alone serving.top) (meeting (codes "join")).top

-- ---- what words choose

-- what is wrong with the words, as clap reads them
abbrev pub faults_of : List (List ℕ) → Kinds
faults_of words = fault_of program words

-- clap meets this choice in the words, and finds no fault
abbrev pub Chooses : List (List ℕ) → Options → Type 0
Chooses words chosen = Meets (subcommand_of program words) chosen × (faults_of words ≡ [])

-- memory ran out, or the words are refused
abbrev pub cause_of_kind : ErrorKind → OptionsError
cause_of_kind kinds.OutOfMemory = Memory
cause_of_kind kind = Words

abbrev pub cause_of : Refusal → OptionsError
cause_of (Parser error) = cause_of_kind (kind_of error)
cause_of NoCommand = Words
cause_of NoName = Words

-- a refusal of words with these faults, in which clap met this subcommand: memory ran out, or the words have a fault,
-- or they have none and no choice was met
abbrev pub Refuses : Kinds → Option (List ℕ × List Row) → Refusal → Type 0
Refuses faults met (Parser error) = HasKind faults error
Refuses faults met refusal = (faults ≡ []) × ((chosen : Options) → Meets met chosen → ⊥)
