-- Which slots of the dictionary retain their names while a lesson is made (profile).
use Rattle.std.specs.Prelude.{◌≡◌, ◌≤◌, ℕ, ◌-◌, Bool, true, false, List, replicate, slice_index_or, Option, Some, None}
use Rattle.table_types.specs.SlotIds.{slot_count, is_slot}
use Rattle.dict_slots.specs.Slots.{Holds}
use Rattle.peers_msg.specs.declared.name_field.NameField.{NameField}
use Rattle.peers_msg.specs.declared.name_field.NameField.TheVariants as names
use Rattle.known_state.specs.Cost.{written_field}

-- no slot's name is retained
abbrev pub none_retained : List Bool
none_retained = replicate slot_count false

-- whether the name that a slot, 1 to 128, holds is retained for a later update, whose request is kept
abbrev pub retained_at : List Bool → ℕ → Bool
retained_at retained slot = slice_index_or retained (slot - 1) false

-- `name` is retained in `slot`
abbrev pub Retains : List Bool → List (Option (List ℕ)) → ℕ → List ℕ → Type 0
Retains retained slots slot name = (retained_at retained slot ≡ true) × Holds slots slot name

-- the slot may be written: no name is retained in it
abbrev pub IsFree : List Bool → ℕ → Type 0
IsFree retained slot = (is_slot slot ≡ true) × (retained_at retained slot ≡ false)

-- How an update's name is sent. A retained name is read, from a slot that retains it; any other is written to the
-- lowest free slot. An update without a name has an empty field if its table stores names, and no field otherwise.
abbrev pub IsNameField : List Bool → List (Option (List ℕ)) → Bool → Option (List ℕ) → NameField → Type 0
IsNameField retained slots stored (Some name) (names.Held slot) = Retains retained slots slot name
IsNameField retained slots stored (Some name) (names.Written slot written) =
    (written ≡ name)
    × ((other : ℕ) → Retains retained slots other name → ⊥)
    × IsFree retained slot
    × ((other : ℕ) → IsFree retained other → slot ≤ other)
IsNameField retained slots stored (Some name) field = ⊥
IsNameField retained slots stored None field = field ≡ written_field stored None
