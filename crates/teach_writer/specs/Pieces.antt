-- What is left of a lesson that is written message by message (profile): each piece is the bytes of one message.
use Rattle.std.specs.Prelude.{◌≡◌, ℕ, ◌+◌, Bool, true, false, List, [], ◌∷◌, ◌++◌, Option, Some, None, length, option_map}
use Rattle.table_types.specs.declared.update.Update.{Update}
use Rattle.table_types.specs.Tables.{Definition, is_definition}
use Rattle.table_types.specs.Updates.{fits}
use Rattle.table_types.specs.Rosters.{table_at}
use Rattle.peers_msg.specs.declared.name_field.NameField.{NameField}
use Rattle.peers_msg.specs.declared.name_field.NameField.TheVariants as names
use Rattle.peers_msg.specs.declared.message.Message.{Message}
use Rattle.peers_msg.specs.Fitting.{name_fits}
use Rattle.peers_msg.specs.Received.{Received, received_after, selected_table}
use Rattle.peers_msg.specs.Spelling.{spelled, stream_of}
use Rattle.known_state.specs.State.{State, last_numbers_after, reads_empty, slots_after}
use Rattle.known_state.specs.LastNumbers.{set_last}
use Rattle.known_state.specs.Known.{KnownState}
use Rattle.known_state.specs.Plans.{Plan}
use Rattle.teach_writer.specs.Sending.{selection, update_sent}
use Rattle.teach_writer.specs.declared.planned_name.PlannedName.{PlannedName}
use Rattle.teach_writer.specs.declared.planned_name.PlannedName.TheVariants as planned

-- What is left of a lesson: the messages that are still to be written; whether the caller was told that none is left;
-- and, of the whole lesson, the marks and the prices of its plan, and what the learner knows after it.
pub record Left : Type 0 where
  pub messages : List Message
  pub ended : Bool
  pub keep : List Bool
  pub prices : List ℕ
  pub known : KnownState

-- the bytes that are left: those of the messages that are left
abbrev pub bytes_left : Left → List ℕ
bytes_left left = stream_of left.messages

-- the plan of the whole lesson
abbrev pub plan_left : Left → Plan
plan_left left = record { keep = left.keep; prices = left.prices }

-- where messages end, if they follow `start` bytes
abbrev pub ends_from : ℕ → List Message → List ℕ
ends_from start [] = []
ends_from start (m ∷ ms) = (start + length (spelled m)) ∷ ends_from (start + length (spelled m)) ms

-- The next piece is the bytes of the first message that is left, and the other messages are left after it. If none is left,
-- there is no piece, and the caller is told so. Neither changes the lesson's plan or what the learner knows after it.
abbrev pub IsNext : Left → Option (List ℕ) → Left → Type 0
IsNext old (Some piece) new =
    (m : Message) × (piece ≡ spelled m)
    × (old.messages ≡ m ∷ new.messages)
    × (new.ended ≡ old.ended)
    × (new.keep ≡ old.keep)
    × (new.prices ≡ old.prices)
    × (new.known ≡ old.known)
IsNext old None new = (old.messages ≡ []) × (new ≡ record { messages = []; ended = true; keep = old.keep; prices = old.prices; known = old.known })

-- the pieces that are given one after another until none is left, and what is left then
abbrev pub ArePieces : Left → List (List ℕ) → Left → Type 0
ArePieces old [] new = IsNext old None new
ArePieces old (piece ∷ pieces) new = (mid : Left) × IsNext old (Some piece) mid × ArePieces mid pieces new

-- ---- the messages that send updates whose names are planned

-- the name field of an update with this name
abbrev pub planned_field : Option (List ℕ) → PlannedName → NameField
planned_field name planned.NotStored = names.NotStored
planned_field name planned.NoName = names.NoName
planned_field name (planned.Read slot) = names.Held slot
planned_field None (planned.Write slot) = names.NoName
planned_field (Some name) (planned.Write slot) = names.Written slot name

-- what selects an update's table, given the roster's table of its id
abbrev pub selection_of : Option Definition → Received → List Message
selection_of None h = []
selection_of (Some d) h = selection h d

-- the state after messages that select a table
abbrev pub state_selected : State → List Message → State
state_selected s [] = s
state_selected s (m ∷ ms) = state_selected (record { received = received_after s.received m; last_numbers = last_numbers_after s m; slots = s.slots }) ms

-- the state in which an update is sent
abbrev pub state_ready : List Definition → State → Update → State
state_ready roster s u = state_selected s (selection_of (table_at roster u.table) s.received)

-- the state after an update that is sent with this name field
abbrev pub state_updated : State → NameField → Update → State
state_updated s field u = record { received = s.received; last_numbers = set_last u.table u.number s.last_numbers; slots = slots_after s.slots field }

-- the messages of one update: what selects its table, and the update; and the state after them
abbrev pub messages_of : List Definition → State → Update → PlannedName → List Message
messages_of roster s u name =
    selection_of (table_at roster u.table) s.received ++ update_sent (state_ready roster s u) (planned_field u.name name) u ∷ []

abbrev pub state_after : List Definition → State → Update → PlannedName → State
state_after roster s u name = state_updated (state_ready roster s u) (planned_field u.name name) u

-- those of updates one after another
abbrev pub messages_left : List Definition → State → List Update → List PlannedName → List Message
messages_left roster s [] names = []
messages_left roster s (u ∷ us) [] = []
messages_left roster s (u ∷ us) (n ∷ ns) = messages_of roster s u n ++ messages_left roster (state_after roster s u n) us ns

abbrev pub state_left : List Definition → State → List Update → List PlannedName → State
state_left roster s [] names = s
state_left roster s (u ∷ us) [] = s
state_left roster s (u ∷ us) (n ∷ ns) = state_left roster (state_after roster s u n) us ns

-- An update can be sent with its planned name: it belongs to a table of the roster, its name field fits that table, and the
-- field reads no empty slot. The table is well formed.
abbrev pub IsSendable : List Definition → State → Update → PlannedName → Type 0
IsSendable roster s u name =
    (d : Definition) × (table_at roster u.table ≡ Some d) × (fits d u ≡ true)
    × (name_fits d (planned_field u.name name) ≡ true)
    × (reads_empty s.slots (planned_field u.name name) ≡ false)
    × (is_definition d ≡ true)

-- each update can be sent after those before it
abbrev pub AreSendable : List Definition → State → List Update → List PlannedName → Type 0
AreSendable roster s [] [] = Unit {0}
AreSendable roster s [] (n ∷ ns) = ⊥
AreSendable roster s (u ∷ us) [] = ⊥
AreSendable roster s (u ∷ us) (n ∷ ns) = IsSendable roster s u n × AreSendable roster (state_after roster s u n) us ns

-- what is left of a lesson by this plan that sends updates with planned names from a known state
abbrev pub left_of : KnownState → List Update → List PlannedName → Bool → Plan → Left
left_of k us names ended plan = record {
  messages = messages_left k.roster k.state us names;
  ended = ended;
  keep = plan.keep;
  prices = plan.prices;
  known = record { roster = k.roster; state = state_left k.roster k.state us names };
}

-- ---- one message of these

-- the id of the selected table
abbrev pub selected_id : Received → Option ℕ
selected_id h = option_map (λ d. d.id) (selected_table h)

-- The message is the next one of an update, and leads to the state e: what selects its table, if it isn't selected; otherwise
-- the whole update.
abbrev pub IsPart : List Definition → State → Update → PlannedName → Bool → Message → State → Type 0
IsPart roster s u name true m e =
    (selection_of (table_at roster u.table) s.received ≡ [])
    × (m ≡ update_sent s (planned_field u.name name) u)
    × (e ≡ state_updated s (planned_field u.name name) u)
IsPart roster s u name false m e =
    (selection_of (table_at roster u.table) s.received ≡ m ∷ [])
    × (e ≡ state_selected s (m ∷ []))
    × (selection_of (table_at roster u.table) e.received ≡ [])

-- the message is the first of those that send updates, and leads to a state from which the others send the rest
abbrev pub IsFirst : List Definition → State → List Update → List PlannedName → Message → State → List Update → List PlannedName → Type 0
IsFirst roster s us names m e left rest =
    (messages_left roster s us names ≡ m ∷ messages_left roster e left rest)
    × (state_left roster e left rest ≡ state_left roster s us names)
    × AreSendable roster e left rest
