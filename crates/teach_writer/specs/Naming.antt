-- The slots that the names of a lesson use (profile). A request is an update with a name; each has a mark, which says
-- whether it is kept. A request has a link if its name was requested before, or is in a slot at the start.
use Rattle.std.specs.Prelude.{◌≡◌, ◌≤◌, ℕ, ◌+◌, Bool, true, false, List, [], ◌∷◌, Option, Some, None, if◌then◌else◌}
use Rattle.table_types.specs.declared.update.Update.{Update}
use Rattle.table_types.specs.Rosters.{is_same_name}
use Rattle.table_types.specs.SlotIds.{is_slot}
use Rattle.peers_msg.specs.declared.name_field.NameField.{NameField}
use Rattle.peers_msg.specs.declared.name_field.NameField.TheVariants as names
use Rattle.known_state.specs.Cost.{written_field}

abbrev pub is_that_name : List ℕ → Option (List ℕ) → Bool
is_that_name name None = false
is_that_name name (Some asked) = is_same_name asked name

abbrev pub lowest_from : ℕ → List (Option (List ℕ)) → List ℕ → Option ℕ
lowest_from slot [] name = None
lowest_from slot (held ∷ slots) name = if is_that_name name held then Some slot else lowest_from (slot + 1) slots name

-- The slot in which a link for each name begins: at the start, the lowest slot that holds the name; later, the slot
-- that the last request for the name read or wrote. Without such a slot, the next request for the name has no link.
abbrev pub starts_at_first : List (Option (List ℕ)) → List ℕ → Option ℕ
starts_at_first slots = λ name. lowest_from 1 slots name

abbrev pub starts_after : (List ℕ → Option ℕ) → Option (List ℕ) → Option ℕ → List ℕ → Option ℕ
starts_after starts (Some name) (Some slot) = λ other. if is_same_name name other then Some slot else starts other
starts_after starts name slot = starts

-- the mark of the first request, and those of the requests after an update
abbrev pub first_mark : List Bool → Bool
first_mark [] = false
first_mark (mark ∷ marks) = mark

abbrev pub marks_after : Option (List ℕ) → List Bool → List Bool
marks_after None marks = marks
marks_after (Some name) [] = []
marks_after (Some name) (mark ∷ marks) = marks

-- whether the next request for a name is kept
abbrev pub keeps_next_update : List ℕ → List Update → List Bool → Bool
keeps_next_update name [] marks = false
keeps_next_update name (u ∷ us) marks = if is_that_name name u.name then first_mark marks else keeps_next_update name us (marks_after u.name marks)

-- A name is retained over the first of these updates in this slot: it is the slot that a kept request will read, whose
-- link begins before the update and ends after it.
abbrev pub IsRetainedOver : (List ℕ → Option ℕ) → List Update → List Bool → ℕ → Type 0
IsRetainedOver starts us marks slot = (name : List ℕ) × (starts name ≡ Some slot) × (keeps_next_update name us marks ≡ true)

-- the slot may be written there: no name is retained in it
abbrev pub IsOpen : (List ℕ → Option ℕ) → List Update → List Bool → ℕ → Type 0
IsOpen starts us marks slot = (is_slot slot ≡ true) × (IsRetainedOver starts us marks slot → ⊥)

-- How the name of the first of these updates is sent. A request that is kept reads the slot in which its link begins;
-- any other name is written to the lowest slot in which no name is retained over this update. An update without a name
-- has an empty field if its table stores names, and no field otherwise.
abbrev pub IsNamed : (List ℕ → Option ℕ) → List Update → List Bool → Bool → Option (List ℕ) → NameField → Type 0
IsNamed starts us (true ∷ marks) stored (Some name) (names.Held slot) = starts name ≡ Some slot
IsNamed starts us (false ∷ marks) stored (Some name) (names.Written slot written) =
    (written ≡ name)
    × IsOpen starts us (false ∷ marks) slot
    × ((other : ℕ) → IsOpen starts us (false ∷ marks) other → slot ≤ other)
IsNamed starts us marks stored (Some name) field = ⊥
IsNamed starts us marks stored None field = field ≡ written_field stored None
