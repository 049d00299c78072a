-- An intake takes its next message, waits for more bytes, or stops at a fault; and does so whatever is due, and whatever
-- bytes come after.
use Rattle.std.proofs.Common.{◌≡◌, ◌≢◌, ◌⊎◌, ℕ, ◌<◌, Bool, true, false, List, [], ◌∷◌, length, Option, Some, None, Result, Ok, Err, refl, sym, ap, inl, inr}
use Rattle.std.specs.Prelude.{is_none, option_map, option_and_then, if◌then◌else◌}
use Rattle.std.specs.List.{cons_option}
use Rattle.table_types.specs.declared.update.Update.{Update}
use Rattle.peers_msg.specs.Integers.{IsBytes}
use Rattle.peers_msg.specs.declared.fault.Breach.{Breach}
use Rattle.peers_msg.specs.declared.message.Message.{Message}
use Rattle.peers_msg.specs.declared.message.Message.TheVariants as messages
use Rattle.peers_msg.specs.Messages.{UpdateFields}
use Rattle.peers_msg.specs.Reading.{message_at}
use Rattle.peers_msg.proofs.MessageCanonical.{message_takes, rest_is_end}
use Rattle.peers_msg.proofs.CuttingIndependence.{rest_good}
use Rattle.known_state.specs.State.{State, reads_empty, resolved_number}
use Rattle.known_state.specs.LastNumbers.{last_of}
use Rattle.known_state.specs.Effects.{IsEffect, carried_by, made, message_refusal, selected_number, written_by}
use Rattle.known_state.specs.declared.effect.Effect.{Effect}
use Rattle.known_state.specs.declared.effect.Effect.TheVariants as effects
use Rattle.known_state.specs.declared.effect.Refusal.{Refusal}
use Rattle.known_state.specs.declared.effect.Refusal.TheVariants as refusals
use Rattle.known_state.specs.declared.effect.ResolvedUpdate.{ResolvedUpdate}
use Rattle.known_state.proofs.EffectsAreSteps.{effect_steps, numbered, resolves_so}
use Rattle.learner.specs.declared.fault.Fault.{Fault}
use Rattle.learner.specs.declared.fault.Fault.TheVariants as faults
use Rattle.learner.specs.declared.taken.Taken.{Taken}
use Rattle.learner.specs.declared.taken.Taken.TheVariants as taken
use Rattle.learner.specs.Faults.{as_fault}
use Rattle.learner.specs.LocalTables.{local_update, local_updates}
use Rattle.learner.specs.Intake.{Taking, Answers, Gives, IntakeNext, Stops, Takes, due_after, fed, rows_of, shut}
use Rattle.learner.proofs.SameFaultHoweverCut.{stops_on}

-- ---- a message that is accepted

-- the message has an effect, and its answer gives the updates of local tables that it carries
abbrev IsAnswered : Taking → Message → Type 0
IsAnswered t m =
    (effect : Effect)
    × (answer : Taken)
    × IsEffect t.state m effect
    × (rows_of answer ≡ local_updates t.roster t.state.received (carried_by t.state m effect))
    × Answers m answer

-- an update of a local table is a row; any other is ignored
row_answered : (t : Taking) (u : UpdateFields) (x : Update) (own : Option Update) → local_update t.roster t.state.received x ≡ own
    → (answer : Taken) × (rows_of answer ≡ local_updates t.roster t.state.received (x ∷ [])) × Answers (messages.Update u) answer
row_answered t u x None is = (taken.Passed, sym (ap (λ (o : Option Update). cons_option o []) is), refl)
row_answered t u x (Some own) is = (taken.Row own, sym (ap (λ (o : Option Update). cons_option o []) is), tt)

answered_as : (t : Taking) (u : UpdateFields) (r : ResolvedUpdate) → IsEffect t.state (messages.Update u) (effects.Update r) → IsAnswered t (messages.Update u)
answered_as t u r effect =
    let row = row_answered t u _ _ refl in
    (effects.Update r, row.0, effect, row.1, row.2)

-- an update that is accepted has a table and a number
update_answered : (t : Taking) (u : UpdateFields) (table number : Option ℕ) → t.state.received.selected ≡ table → selected_number t.state u.number ≡ number → message_refusal t.state (messages.Update u) ≡ None → IsAnswered t (messages.Update u)
update_answered t u table None selected is unrefused = absurd (numbered t.state u.number u.name unrefused is)
update_answered t u None (Some number) selected is unrefused =
    let none : selected_number t.state u.number ≡ None = ap (λ (o : Option ℕ). option_and_then (λ table. resolved_number u.number (last_of t.state.last_numbers table)) o) selected in
    absurd (numbered t.state u.number u.name unrefused none)
update_answered t u (Some table) (Some number) selected is unrefused =
    let r : ResolvedUpdate = record { table = table; number = number; written = written_by u.name } in
    answered_as t u r (r, refl, resolves_so t.state u.number u.name r unrefused selected is refl)

always_answered : (t : Taking) (m : Message) → message_refusal t.state m ≡ None → IsAnswered t m
always_answered t (messages.Update u) unrefused = update_answered t u _ _ refl refl unrefused
always_answered t (messages.Define d) unrefused = (effects.Define d, taken.Passed, refl, refl, refl)
always_answered t (messages.Switch id) unrefused = (effects.Select id, taken.Passed, refl, refl, refl)
always_answered t (messages.Control control) unrefused = (effects.Nothing, taken.Said control, refl, refl, refl)
always_answered t (messages.Error kind) unrefused = (effects.Nothing, taken.Failed kind, refl, refl, refl)
always_answered t (messages.Ack table number) unrefused = (effects.Nothing, taken.Acked table number, refl, refl, refl)
always_answered t (messages.Other other) unrefused = (effects.Nothing, taken.Passed, refl, refl, refl)

-- ---- what an intake does

-- it waits for more bytes; takes a message and has fewer bytes left; or stops at a fault, though memory suffices
abbrev pub Does : Taking → Type 0
Does t =
    IntakeNext t (Ok None) t
    ⊎ (((answer : Taken) × (e : Taking) × Gives t (Ok answer) e × (length e.unread < length t.unread) × IsBytes e.unread)
    ⊎ ((fault : Fault) × (e : Taking) × (fault ≢ faults.Memory) × Stops t fault e))

takes : (t : Taking) (m : Message) (rest : List ℕ) → IsBytes t.unread → t.closed ≡ false → message_at t.state.received t.unread ≡ Ok (Some (m, rest)) → IsAnswered t m → Does t
takes t m rest good is_open at (effect, answer, is, rows, answers) =
    let step = effect_steps t.state m effect (message_takes t.state.received m t.unread rest good at).1 is in
    let e : Taking = record { roster = t.roster; state = made t.state effect; due = due_after t.state m t.due; unread = rest; closed = false } in
    inr (inl (
      answer,
      e,
      (m, (is_open, rest, at, carried_by t.state m effect, step, rows, refl), answers),
      (rest_is_end t.state.received m t.unread rest good at).1,
      rest_good t.state.received m t.unread rest good at,
    ))

tests_memory : (a b : Bool) → (if a then Some refusals.NoNumber else (if b then Some refusals.EmptySlot else None)) ≡ Some refusals.Memory → ⊥
tests_memory true b is = cc
tests_memory false true is = cc
tests_memory false false is = cc

never_memory : (s : State) (m : Message) → message_refusal s m ≡ Some refusals.Memory → ⊥
never_memory s (messages.Update u) is = tests_memory (is_none (selected_number s u.number)) (reads_empty s.slots u.name) is
never_memory s (messages.Define d) is = cc
never_memory s (messages.Switch id) is = cc
never_memory s (messages.Control control) is = cc
never_memory s (messages.Error kind) is = cc
never_memory s (messages.Ack table number) is = cc
never_memory s (messages.Other other) is = cc

-- by whether the next message is refused
at_message : (t : Taking) (m : Message) (rest : List ℕ) (refusal : Option Refusal) → IsBytes t.unread → t.closed ≡ false → message_at t.state.received t.unread ≡ Ok (Some (m, rest)) → message_refusal t.state m ≡ refusal → Does t
at_message t m rest None good is_open at is = takes t m rest good is_open at (always_answered t m is)
at_message t m rest (Some refusals.NoNumber) good is_open at is = inr (inr (faults.NoNumber, shut t, (λ same. cc), (is_open, m, rest, at, ap (option_map as_fault) is, refl)))
at_message t m rest (Some refusals.EmptySlot) good is_open at is = inr (inr (faults.EmptySlot, shut t, (λ same. cc), (is_open, m, rest, at, ap (option_map as_fault) is, refl)))
at_message t m rest (Some refusals.Memory) good is_open at is = absurd (never_memory t.state m is)

-- by what the unread bytes begin with
at_front : (t : Taking) (read : Result (Option (Message × List ℕ)) Breach) → IsBytes t.unread → t.closed ≡ false → message_at t.state.received t.unread ≡ read → Does t
at_front t (Ok None) good is_open at = inl (is_open, at, refl)
at_front t (Ok (Some (m, rest))) good is_open at = at_message t m rest _ good is_open at refl
at_front t (Err breach) good is_open at = inr (inr (faults.Breach breach, shut t, (λ same. cc), (is_open, at, refl)))

-- by whether the intake had a fault before
by_closed : (t : Taking) (closed : Bool) → IsBytes t.unread → t.closed ≡ closed → Does t
by_closed t true good is = inr (inr (faults.Closed, t, (λ same. cc), (is, refl)))
by_closed t false good is = at_front t _ good is refl

pub does : (t : Taking) → IsBytes t.unread → Does t
does t good = by_closed t t.closed good refl

-- ---- more bytes

pub stops_more : (t e : Taking) (more : List ℕ) (fault : Fault) → IsBytes t.unread → Stops t fault e → fault ≢ faults.Memory → (x : Taking) × Stops (fed t more) fault x
stops_more t e more faults.Memory good stops wanted = absurd (wanted refl)
stops_more t e more faults.Closed good (closed, is) wanted = (fed t more, (closed, refl))
stops_more t e more faults.NoNumber good stops wanted = (e, stops_on t e more faults.NoNumber good stops.0 stops wanted)
stops_more t e more faults.EmptySlot good stops wanted = (e, stops_on t e more faults.EmptySlot good stops.0 stops wanted)
stops_more t e more (faults.Breach breach) good stops wanted = (e, stops_on t e more (faults.Breach breach) good stops.0 stops wanted)

-- ---- other ids due

abbrev pub redue : Taking → List ℕ → Taking
redue t due = record t { due = due }

pub takes_redue : (t e : Taking) (m : Message) (own : List Update) (due : List ℕ) → Takes t m own e → Takes (redue t due) m own (redue e (due_after t.state m due))
takes_redue t e m own due (is_open, rest, at, us, step, keeps, is) = (is_open, rest, at, us, step, keeps, ap (λ (x : Taking). redue x (due_after t.state m due)) is)

pub stops_redue : (t e : Taking) (due : List ℕ) (fault : Fault) → Stops t fault e → Stops (redue t due) fault (redue e due)
stops_redue t e due faults.Memory (is_open, takable, is) = (is_open, takable, ap (λ (x : Taking). redue x due) is)
stops_redue t e due faults.Closed (closed, is) = (closed, ap (λ (x : Taking). redue x due) is)
stops_redue t e due (faults.Breach breach) (is_open, at, is) = (is_open, at, ap (λ (x : Taking). redue x due) is)
stops_redue t e due faults.NoNumber (is_open, m, rest, at, refused, is) = (is_open, m, rest, at, refused, ap (λ (x : Taking). redue x due) is)
stops_redue t e due faults.EmptySlot (is_open, m, rest, at, refused, is) = (is_open, m, rest, at, refused, ap (λ (x : Taking). redue x due) is)
