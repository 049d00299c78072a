-- How `run --check` ends, and what it says of a configuration.
use Rattle.std.specs.Prelude.{◌≡◌, ℕ, true, List, Option, Some, None}
use Rattle.std.specs.Io.KnownBytes.{Appends}
use Rattle.admin_text.specs.Configurations.{IsConfiguration}
use Rattle.admin_text.specs.Refusals.{IsFaultless, IsRefusalOf, names_fault}
use Rattle.admin_text.specs.SoFar.{IsSaidBy}
use Rattle.admin_text.specs.Statements.{statements_of}
use Rattle.admin_text.specs.Warnings.{AreWarningsOf}
use Rattle.admin_text.specs.declared.configurations.Configuration.{Configuration}
use Rattle.admin_text.specs.declared.refusals.Refusal.{Refusal}
use Rattle.admin_text.specs.declared.warnings.Warnings.{Warnings}
use Rattle.text_commands.specs.Endings.{line_of}
use Rattle.text_commands.specs.declared.endings.Ending.{Ending}
use Rattle.text_commands.specs.declared.endings.Ending.TheVariants as endings

-- with Done, and then some configuration keeps the rules; or with a refused configuration, out of memory, or with a failed device
abbrev pub EndsConfiguration : Ending → Type 0
EndsConfiguration endings.Done = (c : Configuration) × IsConfiguration c
EndsConfiguration endings.Configuration = Unit {0}
EndsConfiguration endings.Memory = Unit {0}
EndsConfiguration endings.Device = Unit {0}
EndsConfiguration ending = ⊥

-- an input has this text to its end, unless it isn't known what it has
abbrev pub IsInput : Option (List ℕ) → List ℕ → Type 0
IsInput None text = Unit {0}
IsInput (Some bytes) text = text ≡ bytes

-- the input is a configuration of which no line is refused, and none lacks
abbrev pub IsTaken : Option (List ℕ) → Type 0
IsTaken input = (text : List ℕ) × IsInput input text × IsFaultless (statements_of text)

-- the configuration says what the lines of the input say, and nothing else
abbrev pub IsRead : Option (List ℕ) → Configuration → Type 0
IsRead input c = (text : List ℕ) × IsInput input text × IsSaidBy (statements_of text) c

-- it is one, and these lines warn of what in it is surely meant otherwise
abbrev pub IsWarned : Option (List ℕ) → List ℕ → Type 0
IsWarned input said =
    (text : List ℕ)
    × (warnings : Warnings)
    × IsInput input text
    × IsFaultless (statements_of text)
    × AreWarningsOf (statements_of text) warnings
    × (said ≡ warnings.said.items)

-- a line of the input is refused or lacks, and these lines say what is wrong with it
abbrev pub IsRefused : Option (List ℕ) → List ℕ → Type 0
IsRefused input said =
    (text : List ℕ)
    × (refusal : Refusal)
    × IsInput input text
    × IsRefusalOf (statements_of text) refusal
    × (names_fault refusal ≡ true)
    × (said ≡ refusal.said.items)

-- what an ending has written: the warnings if the input is taken, the lines of what is wrong with it, or the line of the ending
abbrev pub IsSaid : Option (List ℕ) → Option (List ℕ) → Option (List ℕ) → Ending → Type 0
IsSaid input before after endings.Done = (said : List ℕ) × IsWarned input said × Appends before after said
IsSaid input before after endings.Configuration = (said : List ℕ) × IsRefused input said × Appends before after said
IsSaid input before after endings.Device = Unit {0}
IsSaid input before after ending = Appends before after (line_of ending)
