-- A name that an update of a table outside the profile writes is then in its slot.
use Rattle.std.proofs.Common.{◌≡◌, ℕ, ◌-◌, ◌<◌, false, List, length, Option, Some, None, Result, Ok, refl, ap, subst, ◌∙◌}
use Rattle.std.specs.Prelude.{slice_set}
use Rattle.std.proofs.lemmas.List.{get_or-set_same}
use Rattle.dict_slots.specs.Slots.{slot_at}
use Rattle.peers_msg.specs.declared.fault.Breach.{Breach}
use Rattle.peers_msg.specs.declared.name_field.NameField.TheVariants as names
use Rattle.peers_msg.specs.Reading.{frame_at}
use Rattle.known_state.specs.Effects.{slots_with, written_by}
use Rattle.known_state.specs.declared.effect.Effect.TheVariants as effects
use Rattle.known_state.specs.declared.effect.ResolvedUpdate.{ResolvedUpdate}
use Rattle.learner.specs.declared.taken.Taken.{Taken}
use Rattle.learner.specs.Intake.{Taking}
use Rattle.tolerant_intake.specs.Loose.{LooseUpdate}
use Rattle.tolerant_intake.specs.Tolerance.{Tolerance, counted_for}
use Rattle.tolerant_intake.specs.Policy.{Passage, Counts, Unnumbered, numbered, of_loose_update, passage_by, passage_of, slot_cause}
use Rattle.tolerant_intake.specs.Reading.{Reads, ReadsAs}
use Rattle.tolerant_intake.specs.Agreement.{IsLoose}
use Rattle.tolerant_intake.proofs.FrontRead.{opened}
use Rattle.tolerant_intake.proofs.ReadingGoesOn.{passes_so, given_no_memory}

-- what becomes of an update that is read loosely
pub loose_so : (l : Tolerance) (t : Taking) (u : LooseUpdate) → t.closed ≡ false → IsLoose l t u → passage_of l t ≡ of_loose_update t.state (Ok u)
loose_so l t u is_open loose =
    opened l t (frame_at t.unread) is_open refl ∙ ap (λ (o : Option (Result LooseUpdate Breach)). passage_by t.state o (frame_at t.unread)) loose

pub names_arrive : (l : Tolerance) (t e : Taking) (answer : Taken) (after : Option Tolerance) (u : LooseUpdate) (slot : ℕ) (name : List ℕ) → t.closed ≡ false → IsLoose l t u → u.name ≡ names.Written slot name → slot - 1 < length t.state.slots
    → Reads (Some l) t (Ok (Some answer)) e after → slot_at e.state.slots slot ≡ Some name
names_arrive l t e answer after u slot name is_open loose writes within reads = at (numbered t.state u.number) refl
  where
    as_read : ReadsAs (of_loose_update t.state (Ok u)) l t (Ok (Some answer)) e after
    as_read = subst (λ (p : Passage). ReadsAs p l t (Ok (Some answer)) e after) (loose_so l t u is_open loose) reads

    at : (number : Option (ℕ × ℕ)) → numbered t.state u.number ≡ number → slot_at e.state.slots slot ≡ Some name
    at None is =
        let lacks : of_loose_update t.state (Ok u) ≡ Unnumbered = rw is refl in
        let stops : ReadsAs Unnumbered l t (Ok (Some answer)) e after = subst (λ (p : Passage). ReadsAs p l t (Ok (Some answer)) e after) lacks as_read in
        let wrong = stops.0 in
        absurd cc
    at (Some n) is =
        let r : ResolvedUpdate = record { table = n.0; number = n.1; written = written_by u.name } in
        let counts : of_loose_update t.state (Ok u) ≡ Counts r (slot_cause t.state u.name) = rw is refl in
        let passes : ReadsAs (Counts r (slot_cause t.state u.name)) l t (Ok (Some answer)) e after = subst (λ (p : Passage). ReadsAs p l t (Ok (Some answer)) e after) counts as_read in
        let is_left = (passes_so (effects.Update r) (counted_for (slot_cause t.state u.name) l) l t e (Ok (Some answer)) after passes (given_no_memory (Some answer))).1 in
        let slots : e.state.slots ≡ slice_set t.state.slots (slot - 1) (Some name) = ap (λ (x : Taking). x.state.slots) is_left ∙ ap (λ (w : Option (ℕ × List ℕ)). slots_with t.state.slots w) (ap written_by writes) in
        ap (λ (s : List (Option (List ℕ))). slot_at s slot) slots ∙ get_or-set_same t.state.slots (slot - 1) (Some name) None within
