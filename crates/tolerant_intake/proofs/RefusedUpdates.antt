-- Updates that the strict intake refuses.
use Rattle.std.proofs.Common.{◌≡◌, ℕ, Bool, true, false, List, Option, Some, None, refl, ap, ◌∙◌}
use Rattle.std.specs.Prelude.{is_none, option_map, option_and_then, if◌then◌else◌}
use Rattle.peers_msg.specs.declared.message.Message.{Message}
use Rattle.peers_msg.specs.declared.message.Message.TheVariants as messages
use Rattle.peers_msg.specs.declared.name_field.NameField.{NameField}
use Rattle.peers_msg.specs.declared.name_field.NameField.TheVariants as names
use Rattle.peers_msg.specs.Messages.{UpdateFields}
use Rattle.known_state.specs.State.{State, reads_empty, resolved_number}
use Rattle.known_state.specs.LastNumbers.{last_of}
use Rattle.known_state.specs.Effects.{selected_number, written_by}
use Rattle.known_state.specs.declared.effect.Refusal.{Refusal}
use Rattle.known_state.specs.declared.effect.Refusal.TheVariants as refusals
use Rattle.learner.specs.declared.fault.Fault.TheVariants as faults
use Rattle.learner.specs.Faults.{as_fault}
use Rattle.learner.specs.Intake.{IsRefused}
use Rattle.tolerant_intake.specs.declared.passed_over.Cause.TheVariants as causes
use Rattle.tolerant_intake.specs.Policy.{Strict, Counts, numbered, of_read, passed, writes}

-- ---- why an update is refused

abbrev refused_by : Option ℕ → Bool → Option Refusal
refused_by number empty = if is_none number then Some refusals.NoNumber else (if empty then Some refusals.EmptySlot else None)

empty_only : (number : Option ℕ) (empty : Bool) → option_map as_fault (refused_by number empty) ≡ Some faults.EmptySlot → (empty ≡ true) × ((n : ℕ) × (number ≡ Some n))
empty_only None empty e = absurd cc
empty_only (Some n) true e = (refl, (n, refl))
empty_only (Some n) false e = absurd cc

none_only : (number : Option ℕ) (empty : Bool) → option_map as_fault (refused_by number empty) ≡ Some faults.NoNumber → number ≡ None
none_only None empty e = refl
none_only (Some n) true e = absurd cc
none_only (Some n) false e = absurd cc

-- ---- numbers

abbrev paired : State → Option ℕ → ℕ → Option (ℕ × ℕ)
paired s number table = option_map (λ n. (table, n)) (resolved_number number (last_of s.last_numbers table))

has_number : (s : State) (number : Option ℕ) (n : ℕ) → selected_number s number ≡ Some n → (table : ℕ) × (numbered s number ≡ Some (table, n))
has_number s number n e = at s.received.selected e
  where
    at : (selected : Option ℕ) → option_and_then (λ table. resolved_number number (last_of s.last_numbers table)) selected ≡ Some n
        → (table : ℕ) × (option_and_then (paired s number) selected ≡ Some (table, n))
    at None is = absurd cc
    at (Some table) is = (table, ap (option_map (λ (k : ℕ). (table, k))) is)

pub lacks_number : (s : State) (number : Option ℕ) → selected_number s number ≡ None → numbered s number ≡ None
lacks_number s number e = at s.received.selected e
  where
    at : (selected : Option ℕ) → option_and_then (λ table. resolved_number number (last_of s.last_numbers table)) selected ≡ None
        → option_and_then (paired s number) selected ≡ None
    at None is = refl
    at (Some table) is = ap (option_map (λ (k : ℕ). (table, k))) is

unwritten : (slots : List (Option (List ℕ))) (field : NameField) → reads_empty slots field ≡ true → written_by field ≡ None
unwritten slots names.NotStored e = refl
unwritten slots names.NoName e = refl
unwritten slots (names.Held slot) e = refl
unwritten slots (names.Written slot name) e = absurd cc

pub silent_writes : (field : NameField) → writes field ≡ false → written_by field ≡ None
silent_writes names.NotStored silent = refl
silent_writes names.NoName silent = refl
silent_writes (names.Held slot) silent = refl
silent_writes (names.Written slot name) silent = absurd cc

-- ---- messages

-- an update that reads an empty slot
abbrev pub IsEmptyUpdate : State → Message → Type 0
IsEmptyUpdate s m = (u : UpdateFields) × (n : ℕ × ℕ) × (m ≡ messages.Update u) × (numbered s u.number ≡ Some n) × (of_read s m ≡ Counts (record { table = n.0; number = n.1; written = None }) (Some causes.Slot))

pub empty_update : (s : State) (m : Message) → IsRefused s m faults.EmptySlot → IsEmptyUpdate s m
empty_update s (messages.Update u) refused =
    let empty = empty_only (selected_number s u.number) (reads_empty s.slots u.name) refused in
    let number = has_number s u.number empty.1.0 empty.1.1 in
    let n : ℕ × ℕ = (number.0, empty.1.0) in
    let counts : of_read s (messages.Update u) ≡ Counts (record { table = n.0; number = n.1; written = written_by u.name }) (Some causes.Slot) =
    ap (λ (b : Bool). if b then passed (numbered s u.number) u.name (Some causes.Slot) Strict else Strict) empty.0 ∙ ap (λ (o : Option (ℕ × ℕ)). passed o u.name (Some causes.Slot) Strict) number.1 in
    (u, n, refl, number.1, counts ∙ ap (λ (w : Option (ℕ × List ℕ)). Counts (record { table = n.0; number = n.1; written = w }) (Some causes.Slot)) (unwritten s.slots u.name empty.0))
empty_update s (messages.Define d) refused = absurd cc
empty_update s (messages.Switch id) refused = absurd cc
empty_update s (messages.Control c) refused = absurd cc
empty_update s (messages.Error e) refused = absurd cc
empty_update s (messages.Ack table number) refused = absurd cc
empty_update s (messages.Other o) refused = absurd cc

-- an update without a number is left to the strict intake
pub unnumbered : (s : State) (m : Message) → IsRefused s m faults.NoNumber → of_read s m ≡ Strict
unnumbered s (messages.Update u) refused =
    let none = lacks_number s u.number (none_only (selected_number s u.number) (reads_empty s.slots u.name) refused) in
    at (reads_empty s.slots u.name) none refl
  where
    at : (empty : Bool) → numbered s u.number ≡ None → reads_empty s.slots u.name ≡ empty → of_read s (messages.Update u) ≡ Strict
    at true none is = rw (is, none) refl
    at false none is = rw is refl
unnumbered s (messages.Define d) refused = absurd cc
unnumbered s (messages.Switch id) refused = absurd cc
unnumbered s (messages.Control c) refused = absurd cc
unnumbered s (messages.Error e) refused = absurd cc
unnumbered s (messages.Ack table number) refused = absurd cc
unnumbered s (messages.Other o) refused = absurd cc
