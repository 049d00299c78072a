-- The name that a field gives, and the slots after it, agree with the definition of `Step`.
use Rattle.std.proofs.Common.{◌≡◌, ℕ, ◌∙◌, true, false, List, Option, Some, None, refl, sym}
use Rattle.dict_slots.specs.Slots.{slot_at}
use Rattle.peers_msg.specs.declared.name_field.NameField.{NameField}
use Rattle.peers_msg.specs.declared.name_field.NameField.TheVariants as names
use Rattle.known_state.specs.State.{Named, reads_empty, name_of, slots_after}

-- a field that doesn't read an empty slot names an update
pub named_by : (slots : List (Option (List ℕ))) (field : NameField) → reads_empty slots field ≡ false → Named slots field (name_of slots field) (slots_after slots field)
named_by slots names.NotStored reads = (refl, refl)
named_by slots names.NoName reads = (refl, refl)
named_by slots (names.Written slot name) reads = (refl, refl)
named_by slots (names.Held slot) reads = at (slot_at slots slot) refl
  where
    at : (o : Option (List ℕ)) → slot_at slots slot ≡ o → Named slots (names.Held slot) (slot_at slots slot) slots
    at None e = let bad : true ≡ false = sym (rw e refl) ∙ reads in cc
    at (Some name) e = (name, e, e, refl)

-- and names it in only one way
pub named_so : (slots : List (Option (List ℕ))) (field : NameField) (name : Option (List ℕ)) (after : List (Option (List ℕ))) → Named slots field name after → (reads_empty slots field ≡ false) × (name ≡ name_of slots field) × (after ≡ slots_after slots field)
named_so slots names.NotStored name after (is_name, is_after) = (refl, is_name, is_after)
named_so slots names.NoName name after (is_name, is_after) = (refl, is_name, is_after)
named_so slots (names.Written slot bytes) name after (is_name, is_after) = (refl, is_name, is_after)
named_so slots (names.Held slot) name after (bytes, held, is_name, is_after) = (rw held refl, is_name ∙ sym held, is_after)
