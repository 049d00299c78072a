-- The slots of the dictionary of server names of one direction of a session (HAProxy, doc/peers-v2.0.txt,
-- "Stick Table Messages"; that they are numbered 1 to 128 is the profile's choice).
use Rattle.std.specs.Prelude.{◌≡◌, ℕ, ◌-◌, true, List, replicate, slice_index_or, Option, Some, None}
use Rattle.table_types.specs.SlotIds.{slot_count, is_slot}

-- no slot holds a name
abbrev pub no_names : List (Option (List ℕ))
no_names = replicate slot_count None

-- the name in a slot, 1 to 128, if it has one
abbrev pub slot_at : List (Option (List ℕ)) → ℕ → Option (List ℕ)
slot_at slots slot = slice_index_or slots (slot - 1) None

-- the slot holds the name
abbrev pub Holds : List (Option (List ℕ)) → ℕ → List ℕ → Type 0
Holds slots slot name = (is_slot slot ≡ true) × (slot_at slots slot ≡ Some name)
