-- How a batch is sent (profile). If an update's table isn't selected, it is selected first: by its definition if it
-- isn't defined yet, and by a switch otherwise. Then the update follows, without its number if that is one more than
-- the table's last, modulo 2^32, and with it otherwise.
use Rattle.std.specs.Prelude.{◌≡◌, ℕ, Bool, false, ◌==◌, List, [], ◌∷◌, ◌++◌, is_some, Option, Some, None, if◌then◌else◌}
use Rattle.table_types.specs.declared.update.Update.{Update}
use Rattle.table_types.specs.Tables.{Definition}
use Rattle.table_types.specs.Rosters.{table_at}
use Rattle.peers_msg.specs.declared.name_field.NameField.{NameField}
use Rattle.peers_msg.specs.declared.name_field.NameField.TheVariants as names
use Rattle.peers_msg.specs.declared.message.Message.{Message}
use Rattle.peers_msg.specs.declared.message.Message.TheVariants as messages
use Rattle.peers_msg.specs.Received.{Received, selected_table}
use Rattle.peers_msg.specs.Spelling.{stream_of}
use Rattle.known_state.specs.State.{State, Step, Teaches}
use Rattle.known_state.specs.LastNumbers.{last_of}
use Rattle.known_state.specs.Known.{KnownState}
use Rattle.known_state.specs.Cost.{sent_as, is_named_table}
use Rattle.teach_writer.specs.Naming.{IsNamed, starts_at_first, starts_after, marks_after}

abbrev pub is_table : Option Definition → ℕ → Bool
is_table None id = false
is_table (Some d) id = d.id == id

-- what selects a table of the roster
abbrev pub selection : Received → Definition → List Message
selection h d =
    if is_table (selected_table h) d.id then []
    else (if is_some (table_at h.tables d.id) then messages.Switch d.id ∷ [] else messages.Define d ∷ [])

-- the slot that a name field reads or writes
abbrev pub slot_of : NameField → Option ℕ
slot_of (names.Held slot) = Some slot
slot_of (names.Written slot name) = Some slot
slot_of field = None

-- the update in its shortest number form, with the name field `field`
abbrev pub update_sent : State → NameField → Update → Message
update_sent s field u = messages.Update (sent_as (last_of s.last_numbers u.table) field u)

-- The messages `ms` send the update `u` and lead from `s` to `e`: what selects its table, then the update in its
-- shortest number form, with the name field `field`.
abbrev pub IsSent : List Definition → State → Update → NameField → List Message → State → Type 0
IsSent roster s u field ms e =
    (d : Definition) × (mid : State)
    × (table_at roster u.table ≡ Some d)
    × Teaches s (selection s.received d) [] mid
    × Step mid (update_sent mid field u) (u ∷ []) e
    × (ms ≡ selection s.received d ++ update_sent mid field u ∷ [])

-- whether the update's table stores names
abbrev pub is_stored : List Definition → Update → Bool
is_stored roster u = is_named_table (table_at roster u.table)

-- These messages send the updates one after another and nothing else, with one mark for each request: each name is read
-- or written as IsNamed says.
abbrev pub AreSent : List Definition → State → (List ℕ → Option ℕ) → List Update → List Bool → List Message → State → Type 0
AreSent roster s starts [] marks ms e = (marks ≡ []) × (ms ≡ []) × (e ≡ s)
AreSent roster s starts (u ∷ us) marks ms e =
    (field : NameField) × (first : List Message) × (mid : State) × (rest : List Message)
    × IsSent roster s u field first mid
    × IsNamed starts (u ∷ us) marks (is_stored roster u) u.name field
    × AreSent roster mid (starts_after starts u.name (slot_of field)) us (marks_after u.name marks) rest e
    × (ms ≡ first ++ rest)

-- The bytes send the updates in order, and read the requests that are marked as kept: they spell messages that send one
-- update after another and nothing else, from the known state to the state `e`.
abbrev pub GoesThrough : KnownState → List Update → List Bool → List ℕ → State → Type 0
GoesThrough k us marks bytes e =
    (ms : List Message) × AreSent k.roster k.state (starts_at_first k.state.slots) us marks ms e × (bytes ≡ stream_of ms)
