-- The state of one direction of a session, and the step that each message makes (HAProxy, doc/peers-v2.0.txt, "Stick
-- Table Messages"; the profile chooses that an incremental update needs a numbered one before it, what definitions do
-- to last numbers, and that only a slot with a name can be read).
use Rattle.std.specs.Prelude.{◌≡◌, ℕ, ◌+◌, ◌-◌, ◌%◌, ◌^◌, Bool, true, false, is_none, List, [], ◌∷◌, ◌++◌, filter, slice_set, Option, Some, None}
use Rattle.std.specs.List.{AllByRecursion}
use Rattle.table_types.specs.declared.update.Update.{Update}
use Rattle.table_types.specs.Tables.{Definition}
use Rattle.table_types.specs.Rosters.{table_at}
use Rattle.dict_slots.specs.Slots.{no_names, slot_at}
use Rattle.peers_msg.specs.declared.name_field.NameField.{NameField}
use Rattle.peers_msg.specs.declared.name_field.NameField.TheVariants as names
use Rattle.peers_msg.specs.declared.message.Message.{Message}
use Rattle.peers_msg.specs.declared.message.Message.TheVariants as messages
use Rattle.peers_msg.specs.Messages.{UpdateFields}
use Rattle.peers_msg.specs.Received.{Received, nothing_received, received_after}
use Rattle.peers_msg.specs.Fitting.{fits}
use Rattle.known_state.specs.LastNumbers.{last_of, set_last, keeps_last}

-- the tables received, the last number of each id that has one, in ascending order of id, and the 128 slots
pub record State : Type 0 where
  pub received : Received
  pub last_numbers : List (ℕ × ℕ)
  pub slots : List (Option (List ℕ))

-- nothing has been received
abbrev pub fresh : State
fresh = record { received = nothing_received; last_numbers = []; slots = no_names }

-- only a definition drops last numbers
abbrev pub last_numbers_after : State → Message → List (ℕ × ℕ)
last_numbers_after s (messages.Define d) = filter (λ l. keeps_last d (table_at s.received.tables l.0) l.0) s.last_numbers
last_numbers_after s m = s.last_numbers

-- the number of an update: its own, or one more than the table's last, modulo 2^32
abbrev pub resolved_number : Option ℕ → Option ℕ → Option ℕ
resolved_number (Some n) last = Some n
resolved_number None (Some last) = Some ((last + 1) % 2 ^ 32)
resolved_number None None = None

-- the name of an update, and the slots afterwards: no name; a name that is written, which the slot then holds; or a
-- name that is read, which a slot that isn't empty holds
abbrev pub Named : List (Option (List ℕ)) → NameField → Option (List ℕ) → List (Option (List ℕ)) → Type 0
Named slots names.NotStored name after = (name ≡ None) × (after ≡ slots)
Named slots names.NoName name after = (name ≡ None) × (after ≡ slots)
Named slots (names.Written slot bytes) name after = (name ≡ Some bytes) × (after ≡ slice_set slots (slot - 1) (Some bytes))
Named slots (names.Held slot) name after = (bytes : List ℕ) × (slot_at slots slot ≡ Some bytes) × (name ≡ Some bytes) × (after ≡ slots)

-- a field that reads a slot that holds no name
abbrev pub reads_empty : List (Option (List ℕ)) → NameField → Bool
reads_empty slots (names.Held slot) = is_none (slot_at slots slot)
reads_empty slots field = false

-- the name that a field gives: none, the one written, or what its slot holds
abbrev pub name_of : List (Option (List ℕ)) → NameField → Option (List ℕ)
name_of slots (names.Held slot) = slot_at slots slot
name_of slots (names.Written slot name) = Some name
name_of slots field = None

-- the slots after a field: a name that is written is in its slot
abbrev pub slots_after : List (Option (List ℕ)) → NameField → List (Option (List ℕ))
slots_after slots (names.Written slot name) = slice_set slots (slot - 1) (Some name)
slots_after slots field = slots

-- what an update carries, once table, number and name are resolved
abbrev pub resolved : UpdateFields → ℕ → ℕ → Option (List ℕ) → Update
resolved u table number name = record { table = table; number = number; life = u.life; key = u.key; values = u.values; name = name }

-- The message fits the state `s`, carries the updates `us`, at most one, and leads to the state `s'`. An update carries
-- itself with its table, number and name resolved, its number becomes the table's last, and its name field changes the
-- slots. Any other message carries nothing and leaves the slots unchanged; a definition or a switch changes what is
-- received, and a definition may drop last numbers.
abbrev pub Step : State → Message → List Update → State → Type 0
Step s (messages.Update u) us s' =
    (fits s.received (messages.Update u) ≡ true)
    × (table : ℕ) × (s.received.selected ≡ Some table)
    × (number : ℕ) × (resolved_number u.number (last_of s.last_numbers table) ≡ Some number)
    × (name : Option (List ℕ)) × Named s.slots u.name name s'.slots
    × (us ≡ resolved u table number name ∷ [])
    × (s'.received ≡ s.received)
    × (s'.last_numbers ≡ set_last table number s.last_numbers)
Step s m us s' =
    (fits s.received m ≡ true)
    × (us ≡ [])
    × (s' ≡ record { received = received_after s.received m; last_numbers = last_numbers_after s m; slots = s.slots })

-- the messages, each from the state that the earlier ones leave, carry `us` in order, and lead from `s` to `e`
abbrev pub Teaches : State → List Message → List Update → State → Type 0
Teaches s [] us e = (us ≡ []) × (e ≡ s)
Teaches s (m ∷ ms) us e =
    (one : List Update) × (rest : List Update) × (mid : State)
    × (us ≡ one ++ rest)
    × Step s m one mid
    × Teaches mid ms rest e

-- a definition is the roster's own
abbrev pub IsOwn : List Definition → Message → Type 0
IsOwn roster (messages.Define d) = table_at roster d.id ≡ Some d
IsOwn roster m = Unit {0}

-- from a known state with `roster` and `s`, the messages are legal, carry `us`, and lead to `e`
abbrev pub Legal : List Definition → State → List Message → List Update → State → Type 0
Legal roster s ms us e = AllByRecursion (IsOwn roster) ms × Teaches s ms us e
