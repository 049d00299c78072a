-- The lesson in which every name is written, and its cost in bytes (profile).
use Rattle.std.specs.Prelude.{ℕ, ◌+◌, ◌-◌, ◌%◌, ◌^◌, ◌≤◌, Bool, true, false, ◌||◌, ◌==◌, List, [], ◌∷◌, ◌++◌, ◌≡◌, is_some, Option, Some, None, option_map, if◌then◌else◌}
use Rattle.table_types.specs.declared.update.Update.{Update}
use Rattle.table_types.specs.Tables.{Definition}
use Rattle.table_types.specs.Updates.{stores_name}
use Rattle.table_types.specs.Rosters.{table_at}
use Rattle.peers_msg.specs.declared.name_field.NameField.{NameField}
use Rattle.peers_msg.specs.declared.name_field.NameField.TheVariants as names
use Rattle.peers_msg.specs.declared.message.Message.{Message}
use Rattle.peers_msg.specs.declared.message.Message.TheVariants as messages
use Rattle.peers_msg.specs.Messages.{UpdateFields}
use Rattle.peers_msg.specs.Received.{selected_table}
use Rattle.peers_msg.specs.Spelling.{size_of, size_of_all}
use Rattle.known_state.specs.State.{State, Step}
use Rattle.known_state.specs.LastNumbers.{last_of}

-- what determines the cost of a lesson: which ids are defined, which one is selected, and the last number of each
-- defined id
pub record Knowledge : Type 0 where
  pub is_defined : ℕ → Bool
  pub selected : Option ℕ
  pub last : ℕ → Option ℕ

abbrev pub knowledge_of : State → Knowledge
knowledge_of s = record {
  is_defined = λ id. is_some (table_at s.received.tables id);
  selected = option_map (λ d. d.id) (selected_table s.received);
  last = λ id. if is_some (table_at s.received.tables id) then last_of s.last_numbers id else None;
}

-- the same after an update: its table is defined and selected, and its number is the table's last
abbrev pub knowledge_after : Knowledge → Update → Knowledge
knowledge_after k u = record { is_defined = λ id. id == u.table || k.is_defined id; selected = Some u.table; last = λ id. if id == u.table then Some u.number else k.last id }

-- whether a number is one more than the last, modulo 2^32
abbrev pub follows : Option ℕ → ℕ → Bool
follows None number = false
follows (Some last) number = (last + 1) % 2 ^ 32 == number

-- the number that is sent: none if the learner derives it by itself
abbrev pub number_sent : Option ℕ → ℕ → Option ℕ
number_sent last number = if follows last number then None else Some number

-- an update in its shortest number form, with the name field `field`
abbrev pub sent_as : Option ℕ → NameField → Update → UpdateFields
sent_as last field u = record { number = number_sent last u.number; life = u.life; key = u.key; values = u.values; name = field }

-- the name field with the name written; every slot takes as many bytes as the first
abbrev pub written_field : Bool → Option (List ℕ) → NameField
written_field false name = names.NotStored
written_field true None = names.NoName
written_field true (Some name) = names.Written 1 name

abbrev pub is_named_table : Option Definition → Bool
is_named_table None = false
is_named_table (Some d) = stores_name d

-- an update with its name written
abbrev pub written : List Definition → Knowledge → Update → Message
written roster k u = messages.Update (sent_as (k.last u.table) (written_field (is_named_table (table_at roster u.table)) u.name) u)

-- what an update costs with its name written
abbrev pub written_cost : List Definition → Knowledge → Update → ℕ
written_cost roster k u = size_of (written roster k u)

abbrev pub is_selected : Option ℕ → ℕ → Bool
is_selected None id = false
is_selected (Some selected) id = selected == id

abbrev pub defining : Option Definition → List Message
defining None = []
defining (Some d) = messages.Define d ∷ []

-- what selects a table: nothing, a switch, or its definition
abbrev pub selecting : List Definition → Knowledge → ℕ → List Message
selecting roster k id =
    if is_selected k.selected id then []
    else (if k.is_defined id then messages.Switch id ∷ [] else defining (table_at roster id))

-- The lesson with every name written: the updates one after another, each in its shortest number form and after what
-- selects its table. No slot is retained, so each name is written to the first slot.
abbrev pub written_lesson : List Definition → Knowledge → List Update → List Message
written_lesson roster k [] = []
written_lesson roster k (u ∷ us) = selecting roster k u.table ++ (written roster k u ∷ written_lesson roster (knowledge_after k u) us)

-- its size
abbrev pub full : List Definition → State → List Update → ℕ
full roster s us = size_of_all (written_lesson roster (knowledge_of s) us)

-- ---- the same size, update by update

abbrev pub definition_cost : Option Definition → ℕ
definition_cost None = 0
definition_cost (Some d) = size_of (messages.Define d)

-- the cost of selecting a table: nothing, a switch, or its definition
abbrev pub selection_cost : List Definition → Knowledge → ℕ → ℕ
selection_cost roster k id =
    if is_selected k.selected id then 0
    else (if k.is_defined id then size_of (messages.Switch id) else definition_cost (table_at roster id))

-- the cost of the updates, one after another
abbrev pub cost_from : List Definition → Knowledge → List Update → ℕ
cost_from roster k [] = 0
cost_from roster k (u ∷ us) = selection_cost roster k u.table + written_cost roster k u + cost_from roster (knowledge_after k u) us

-- and their cost from a state on
abbrev pub cost : List Definition → State → List Update → ℕ
cost roster s us = cost_from roster (knowledge_of s) us

-- ---- what reads save

abbrev pub is_held : NameField → Bool
is_held (names.Held slot) = true
is_held field = false

-- what a message saves by reading a name: the cost of its update with the name written, less the cost with the name
-- read
abbrev pub saving : List Definition → Knowledge → Message → List Update → ℕ
saving roster k (messages.Update m) (u ∷ []) = if is_held m.name then written_cost roster k u - size_of (messages.Update (sent_as (k.last u.table) m.name u)) else 0
saving roster k m us = 0

-- the update belongs to a table of the roster
abbrev pub IsOfRoster : List Definition → Update → Type 0
IsOfRoster roster u = (d : Definition) × (table_at roster u.table ≡ Some d)

-- A step pays for what it saves: what is left to send before the message costs at most the message's size, plus the
-- saving of its read, plus what is left to send after it.
abbrev pub Pays : List Definition → State → Message → List Update → List Update → State → Type 0
Pays roster s m one rest mid = full roster s (one ++ rest) ≤ size_of m + saving roster (knowledge_of s) m one + full roster mid rest

-- what messages that carry the updates `us` save, from the state `s` on
abbrev pub Saves : List Definition → State → List Message → List Update → ℕ → Type 0
Saves roster s [] us saved = saved ≡ 0
Saves roster s (m ∷ ms) us saved =
    (one : List Update) × (rest : List Update) × (mid : State) × (later : ℕ)
    × (us ≡ one ++ rest)
    × Step s m one mid
    × (saved ≡ saving roster (knowledge_of s) m one + later)
    × Saves roster mid ms rest later
