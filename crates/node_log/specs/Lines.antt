-- Lines of the log.
use Rattle.std.specs.Prelude.{◌≡◌, ◌++◌, ◌&&◌, ◌==◌, ℕ, Bool, true, false, List, [], ◌∷◌, codes, drop, if◌then◌else◌, map, nat_le}
use Rattle.std.specs.List.{list_all}
use Rattle.node_core.specs.declared.events.Event.{Event}
use Rattle.node_core.specs.declared.levels.Level.{Level}
use Rattle.node_core.specs.declared.levels.Level.TheVariants as levels
use Rattle.node_log.specs.declared.lines.Form.{Form}
use Rattle.node_log.specs.declared.lines.Form.TheVariants as forms
use Rattle.node_log.specs.Events.{event_name, level_of}
use Rattle.node_log.specs.Keys.{keys_text}
use Rattle.node_log.specs.Times.{IsTime}
use Rattle.node_log.specs.Values.{printable}

abbrev pub level_name : Level → List ℕ
level_name levels.Error = codes "error"
level_name levels.Warn = codes "warn"
level_name levels.Info = codes "info"
level_name levels.Debug = codes "debug"

-- the digit by which the journal knows a level: 3, 4, 6 or 7 (systemd, sd-daemon.h)
abbrev pub journal_number : Level → ℕ
journal_number levels.Error = 51
journal_number levels.Warn = 52
journal_number levels.Info = 54
journal_number levels.Debug = 55

-- a level between two spaces (32)
abbrev pub level_text : Level → List ℕ
level_text level = 32 ∷ (level_name level ++ 32 ∷ [])

-- what a line begins with: the time and the level, or the level's number between `<` (60) and `>` (62)
abbrev pub IsHead : Form → Level → List ℕ → Type 0
IsHead (forms.Dated milliseconds) level head = (time : List ℕ) × IsTime milliseconds time × (head ≡ time ++ level_text level)
IsHead forms.Journal level head = head ≡ 60 ∷ journal_number level ∷ 62 ∷ []

-- an event's name, and its keys
abbrev pub event_text : Event → List ℕ
event_text event = codes "event=" ++ (event_name event ++ keys_text event)

-- the line of an event, with this sentence
abbrev pub Says : Form → Event → List ℕ → List ℕ → Type 0
Says form event sentence line =
    (head : List ℕ) × IsHead form (level_of event) head × (line ≡ head ++ (event_text event ++ (codes ": " ++ (map printable sentence ++ 10 ∷ []))))

-- the line of an event comes behind what was there
abbrev pub Adds : Form → Event → List ℕ → List ℕ → Type 0
Adds form event before after = (sentence line : List ℕ) × Says form event sentence line × (after ≡ before ++ line)

abbrev pub AddsTime : ℕ → List ℕ → List ℕ → Type 0
AddsTime milliseconds before after = (time : List ℕ) × IsTime milliseconds time × (after ≡ before ++ time)

abbrev pub AddsHead : Form → Level → List ℕ → List ℕ → Type 0
AddsHead form level before after = (head : List ℕ) × IsHead form level head × (after ≡ before ++ head)

-- ---- what whoever reads a line finds

abbrev pub is_printable : ℕ → Bool
is_printable byte = nat_le 32 byte && nat_le byte 126

-- printable bytes, and LF (10) at the end
abbrev pub IsOneLine : List ℕ → Type 0
IsOneLine line = (said : List ℕ) × (line ≡ said ++ 10 ∷ []) × (list_all is_printable said ≡ true)

abbrev pub begins_with_space : List ℕ → Bool
begins_with_space [] = false
begins_with_space (byte ∷ rest) = byte == 32

-- what stands behind the first `: `, a colon (58) and a space
abbrev pub behind_colon : List ℕ → List ℕ
behind_colon [] = []
behind_colon (byte ∷ rest) = if byte == 58 && begins_with_space rest then drop 1 rest else behind_colon rest
