-- What a batch requests from the dictionary of server names (profile).
use Rattle.std.specs.Prelude.{◌≡◌, ℕ, ◌+◌, ◌-◌, Bool, true, false, List, [], ◌∷◌, ◌++◌, Option, Some, None}
use Rattle.table_types.specs.declared.update.Update.{Update}
use Rattle.table_types.specs.Tables.{Definition}
use Rattle.table_types.specs.Updates.{fits}
use Rattle.table_types.specs.Rosters.{table_at}
use Rattle.peers_msg.specs.declared.name_field.NameField.{NameField}
use Rattle.peers_msg.specs.declared.name_field.NameField.TheVariants as names
use Rattle.peers_msg.specs.declared.message.Message.{Message}
use Rattle.peers_msg.specs.declared.message.Message.TheVariants as messages
use Rattle.peers_msg.specs.Spelling.{size_of}
use Rattle.known_state.specs.Cost.{Knowledge, knowledge_after, sent_as, written_cost}

-- a request for a name, and the sizes of its message with the name read and with the name written
pub record Asked : Type 0 where
  pub name : List ℕ
  pub read_cost : ℕ
  pub write_cost : ℕ

-- what an update costs with its name read; every slot takes as many bytes as the first
abbrev pub held_cost : Knowledge → Update → ℕ
held_cost k u = size_of (messages.Update (sent_as (k.last u.table) (names.Held 1) u))

-- the request of an update, if it has a name
abbrev pub asked : List Definition → Knowledge → Update → Option (List ℕ) → List Asked
asked roster k u None = []
asked roster k u (Some name) = record { name = name; read_cost = held_cost k u; write_cost = written_cost roster k u } ∷ []

-- the requests of updates, one after another
abbrev pub requests_of : List Definition → Knowledge → List Update → List Asked
requests_of roster k [] = []
requests_of roster k (u ∷ us) = asked roster k u u.name ++ requests_of roster (knowledge_after k u) us

-- the update belongs to a table of the roster
abbrev pub IsUpdateOf : List Definition → Update → Type 0
IsUpdateOf roster u = (d : Definition) × (table_at roster u.table ≡ Some d) × (fits d u ≡ true)

-- ---- what a list of messages reads

-- the mark of a name field: true if the name is read, false if it is written; a field without a name has none
abbrev pub mark_of : NameField → List Bool
mark_of (names.Held slot) = true ∷ []
mark_of (names.Written slot name) = false ∷ []
mark_of field = []

-- one mark for each update with a name, in order: whether its message reads the name
abbrev pub reads_of : List Message → List Bool
reads_of [] = []
reads_of (messages.Update u ∷ ms) = mark_of u.name ++ reads_of ms
reads_of (m ∷ ms) = reads_of ms

-- what the requests that are read save, given a mark for each request: its write cost less its read cost
abbrev pub read_savings : List Asked → List Bool → ℕ
read_savings [] marks = 0
read_savings (r ∷ rs) [] = 0
read_savings (r ∷ rs) (true ∷ marks) = (r.write_cost - r.read_cost) + read_savings rs marks
read_savings (r ∷ rs) (false ∷ marks) = read_savings rs marks
