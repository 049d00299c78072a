-- Effects agree with the definition of `Step`.
use Rattle.std.proofs.Common.{◌≡◌, ℕ, Bool, true, false, List, Option, Some, None, refl, sym, ap, subst, ◌∙◌}
use Rattle.std.specs.Prelude.{is_none, option_and_then, if◌then◌else◌}
use Rattle.known_state.specs.LastNumbers.{last_of}
use Rattle.table_types.specs.declared.update.Update.{Update}
use Rattle.peers_msg.specs.declared.name_field.NameField.{NameField}
use Rattle.peers_msg.specs.declared.name_field.NameField.TheVariants as names
use Rattle.peers_msg.specs.declared.message.Message.{Message}
use Rattle.peers_msg.specs.declared.message.Message.TheVariants as messages
use Rattle.peers_msg.specs.Messages.{UpdateFields}
use Rattle.peers_msg.specs.Fitting.{fits}
use Rattle.known_state.specs.State.{State, Step, Named, name_of, reads_empty, resolved_number, slots_after}
use Rattle.known_state.specs.Effects.{IsEffect, Resolves, carried_by, made, message_refusal, refusal_of, selected_number, slots_with, written_by}
use Rattle.known_state.specs.declared.effect.Effect.{Effect}
use Rattle.known_state.specs.declared.effect.Effect.TheVariants as effects
use Rattle.known_state.specs.declared.effect.Refusal.{Refusal}
use Rattle.known_state.specs.declared.effect.Refusal.TheVariants as refusals
use Rattle.known_state.specs.declared.effect.ResolvedUpdate.{ResolvedUpdate}
use Rattle.known_state.proofs.NamedAsResolved.{named_by, named_so}
use Rattle.known_state.proofs.StepIsDeterministic.{one_step}

-- a name that a field writes is then in its slot
pub slots_with_field : (slots : List (Option (List ℕ))) (field : NameField) → slots_with slots (written_by field) ≡ slots_after slots field
slots_with_field slots names.NotStored = refl
slots_with_field slots names.NoName = refl
slots_with_field slots (names.Held slot) = refl
slots_with_field slots (names.Written slot name) = refl

-- making an effect is a step
by : (s : State) (m : Message) (x effect : Effect) → effect ≡ x → Step s m (carried_by s m x) (made s x) → Step s m (carried_by s m effect) (made s effect)
by s m x effect is step = subst (λ (y : Effect). Step s m (carried_by s m y) (made s y)) (sym is) step

pub effect_steps : (s : State) (m : Message) (effect : Effect) → fits s.received m ≡ true → IsEffect s m effect → Step s m (carried_by s m effect) (made s effect)
effect_steps s (messages.Update u) effect fit (r, is, (selected, number, reads, written)) =
    let slots : slots_after s.slots u.name ≡ slots_with s.slots r.written = sym (slots_with_field s.slots u.name) ∙ ap (slots_with s.slots) (sym written) in
    let named : Named s.slots u.name (name_of s.slots u.name) (slots_with s.slots r.written) = subst (λ (after : List (Option (List ℕ))). Named s.slots u.name (name_of s.slots u.name) after) slots (named_by s.slots u.name reads) in
    by s (messages.Update u) (effects.Update r) effect is (fit, r.table, selected, r.number, number, name_of s.slots u.name, named, refl, refl, refl)
effect_steps s (messages.Define d) effect fit is = by s (messages.Define d) (effects.Define d) effect is (fit, refl, refl)
effect_steps s (messages.Switch id) effect fit is = by s (messages.Switch id) (effects.Select id) effect is (fit, refl, refl)
effect_steps s (messages.Control c) effect fit is = by s (messages.Control c) effects.Nothing effect is (fit, refl, refl)
effect_steps s (messages.Error e) effect fit is = by s (messages.Error e) effects.Nothing effect is (fit, refl, refl)
effect_steps s (messages.Ack table number) effect fit is = by s (messages.Ack table number) effects.Nothing effect is (fit, refl, refl)
effect_steps s (messages.Other o) effect fit is = by s (messages.Other o) effects.Nothing effect is (fit, refl, refl)

-- any update with that number and that name field that fits makes its step
pub resolved_steps : (s e : State) (number : Option ℕ) (field : NameField) (r : ResolvedUpdate) → Resolves s number field r → e ≡ made s (effects.Update r) → (u : UpdateFields) → u.number ≡ number → u.name ≡ field → fits s.received (messages.Update u) ≡ true → (us : List Update) × Step s (messages.Update u) us e
resolved_steps s e number field r resolves is u is_number is_field fit =
    let here : Resolves s u.number u.name r = rw (is_number, is_field) resolves in
    let step = effect_steps s (messages.Update u) (effects.Update r) fit (r, refl, here) in
    (carried_by s (messages.Update u) (effects.Update r), subst (λ (x : State). Step s (messages.Update u) (carried_by s (messages.Update u) (effects.Update r)) x) (sym is) step)

-- a message that makes a step fits
pub step_fits : (s e : State) (m : Message) (us : List Update) → Step s m us e → fits s.received m ≡ true
step_fits s e (messages.Update u) us step = step.0
step_fits s e (messages.Control c) us step = step.0
step_fits s e (messages.Error k) us step = step.0
step_fits s e (messages.Define d) us step = step.0
step_fits s e (messages.Switch id) us step = step.0
step_fits s e (messages.Ack table number) us step = step.0
step_fits s e (messages.Other o) us step = step.0

-- and makes no other step
pub no_other : (s e : State) (m : Message) (us : List Update) (effect : Effect) → IsEffect s m effect → Step s m us e → (us ≡ carried_by s m effect) × (e ≡ made s effect)
no_other s e m us effect is step =
    one_step s e (made s effect) m us (carried_by s m effect) step (effect_steps s m effect (step_fits s e m us step) is)

-- an update that resolves isn't refused
pub resolved_unrefused : (s : State) (number : Option ℕ) (field : NameField) (r : ResolvedUpdate) → Resolves s number field r → refusal_of s number field ≡ None
resolved_unrefused s number field r (selected, is, reads, written) = rw (selected, is, reads) refl

-- a message with an effect isn't refused
pub effect_unrefused : (s : State) (m : Message) (effect : Effect) → IsEffect s m effect → message_refusal s m ≡ None
effect_unrefused s (messages.Update u) effect (r, is, resolves) = resolved_unrefused s u.number u.name r resolves
effect_unrefused s (messages.Define d) effect is = refl
effect_unrefused s (messages.Switch id) effect is = refl
effect_unrefused s (messages.Control c) effect is = refl
effect_unrefused s (messages.Error e) effect is = refl
effect_unrefused s (messages.Ack table number) effect is = refl
effect_unrefused s (messages.Other o) effect is = refl

-- nor is a message that makes a step
pub step_unrefused : (s e : State) (m : Message) (us : List Update) → Step s m us e → message_refusal s m ≡ None
step_unrefused s e (messages.Update u) us (fit, table, is_table, number, is_number, name, named, carried, received, last_numbers) =
    rw (is_table, is_number, (named_so s.slots u.name name e.slots named).0) refl
step_unrefused s e (messages.Define d) us step = refl
step_unrefused s e (messages.Switch id) us step = refl
step_unrefused s e (messages.Control c) us step = refl
step_unrefused s e (messages.Error k) us step = refl
step_unrefused s e (messages.Ack table number) us step = refl
step_unrefused s e (messages.Other o) us step = refl

-- so a refused message makes no step
pub refused_steps : (s e : State) (m : Message) (us : List Update) (refusal : Refusal) → message_refusal s m ≡ Some refusal → Step s m us e → ⊥
refused_steps s e m us refusal refused step =
    let bad : None ≡ Some refusal = sym (step_unrefused s e m us step) ∙ refused in
    cc

tests_fail : (a b : Bool) → (if a then Some refusals.NoNumber else (if b then Some refusals.EmptySlot else None)) ≡ None → (a ≡ false) × (b ≡ false)
tests_fail true b h = cc
tests_fail false true h = cc
tests_fail false false h = (refl, refl)

-- an update that isn't refused has a number
pub numbered : (s : State) (number : Option ℕ) (field : NameField) → refusal_of s number field ≡ None → selected_number s number ≡ None → ⊥
numbered s number field unrefused none =
    let some : is_none (selected_number s number) ≡ false = (tests_fail (is_none (selected_number s number)) (reads_empty s.slots field) unrefused).0 in
    let bad : true ≡ false = sym (ap (λ (o : Option ℕ). is_none o) none) ∙ some in
    cc

-- and resolves to that number and to what its field writes
pub resolves_so : (s : State) (number : Option ℕ) (field : NameField) (r : ResolvedUpdate) → refusal_of s number field ≡ None → s.received.selected ≡ Some r.table → selected_number s number ≡ Some r.number → r.written ≡ written_by field → Resolves s number field r
resolves_so s number field r unrefused selected is written =
    let here : selected_number s number ≡ resolved_number number (last_of s.last_numbers r.table) = ap (λ (o : Option ℕ). option_and_then (λ table. resolved_number number (last_of s.last_numbers table)) o) selected in
    (selected, sym here ∙ is, (tests_fail (is_none (selected_number s number)) (reads_empty s.slots field) unrefused).1, written)
