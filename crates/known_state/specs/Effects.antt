-- What a message does to a state, in two halves: its effect, or the reason to refuse it, is found first, and then the
-- effect is made.
use Rattle.std.specs.Prelude.{◌≡◌, ℕ, ◌-◌, false, is_none, List, [], ◌∷◌, slice_set, Option, Some, None, option_and_then, if◌then◌else◌}
use Rattle.table_types.specs.declared.update.Update.{Update}
use Rattle.peers_msg.specs.declared.name_field.NameField.{NameField}
use Rattle.peers_msg.specs.declared.name_field.NameField.TheVariants as names
use Rattle.peers_msg.specs.declared.message.Message.{Message}
use Rattle.peers_msg.specs.declared.message.Message.TheVariants as messages
use Rattle.peers_msg.specs.Received.{received_after}
use Rattle.known_state.specs.LastNumbers.{last_of, set_last}
use Rattle.known_state.specs.State.{State, last_numbers_after, resolved_number, resolved, reads_empty, name_of}
use Rattle.known_state.specs.declared.effect.Effect.{Effect}
use Rattle.known_state.specs.declared.effect.Effect.TheVariants as effects
use Rattle.known_state.specs.declared.effect.Refusal.{Refusal}
use Rattle.known_state.specs.declared.effect.Refusal.TheVariants as refusals
use Rattle.known_state.specs.declared.effect.ResolvedUpdate.{ResolvedUpdate}

-- the number of an update of the selected table
abbrev pub selected_number : State → Option ℕ → Option ℕ
selected_number s number = option_and_then (λ table. resolved_number number (last_of s.last_numbers table)) s.received.selected

-- Why an update with `number` and the name field `field` is refused: the first of two causes that applies. NoNumber: no
-- table is selected, or the update is incremental and the selected table has no last number. EmptySlot: its name field
-- reads a slot that holds no name.
abbrev pub refusal_of : State → Option ℕ → NameField → Option Refusal
refusal_of s number field =
    if is_none (selected_number s number) then Some refusals.NoNumber
    else (if reads_empty s.slots field then Some refusals.EmptySlot else None)

-- why a message that fits is refused: only an update can be
abbrev pub message_refusal : State → Message → Option Refusal
message_refusal s (messages.Update u) = refusal_of s u.number u.name
message_refusal s m = None

-- the slot that a name field writes, and the name
abbrev pub written_by : NameField → Option (ℕ × List ℕ)
written_by (names.Written slot name) = Some (slot, name)
written_by field = None

-- what an update with `number` and the name field `field` resolves to
abbrev pub Resolves : State → Option ℕ → NameField → ResolvedUpdate → Type 0
Resolves s number field r =
    (s.received.selected ≡ Some r.table)
    × (resolved_number number (last_of s.last_numbers r.table) ≡ Some r.number)
    × (reads_empty s.slots field ≡ false)
    × (r.written ≡ written_by field)

-- the effect of a message
abbrev pub IsEffect : State → Message → Effect → Type 0
IsEffect s (messages.Define d) effect = effect ≡ effects.Define d
IsEffect s (messages.Switch id) effect = effect ≡ effects.Select id
IsEffect s (messages.Update u) effect = (r : ResolvedUpdate) × (effect ≡ effects.Update r) × Resolves s u.number u.name r
IsEffect s m effect = effect ≡ effects.Nothing

-- what a message carries according to its effect: an update carries itself, resolved
abbrev pub carried_by : State → Message → Effect → List Update
carried_by s (messages.Update u) (effects.Update r) = resolved u r.table r.number (name_of s.slots u.name) ∷ []
carried_by s m effect = []

-- the slots after a name is written
abbrev pub slots_with : List (Option (List ℕ)) → Option (ℕ × List ℕ) → List (Option (List ℕ))
slots_with slots None = slots
slots_with slots (Some written) = slice_set slots (written.0 - 1) (Some written.1)

-- the state to which an effect leads
abbrev pub made : State → Effect → State
made s effects.Nothing = s
made s (effects.Define d) = record { received = received_after s.received (messages.Define d); last_numbers = last_numbers_after s (messages.Define d); slots = s.slots }
made s (effects.Select id) = record { received = received_after s.received (messages.Switch id); last_numbers = s.last_numbers; slots = s.slots }
made s (effects.Update r) = record { received = s.received; last_numbers = set_last r.table r.number s.last_numbers; slots = slots_with s.slots r.written }
