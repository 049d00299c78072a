-- The results of taking one message.
use Rattle.std.proofs.Common.{◌≡◌, ℕ, Bool, false, List, drop, Option, Some, None, Ok, refl, sym, ap, subst, ◌∙◌}
use Rattle.std.specs.Prelude.{option_map}
use Rattle.peers_msg.specs.declared.fault.Breach.{Breach}
use Rattle.peers_msg.specs.declared.message.Message.{Message}
use Rattle.peers_msg.specs.declared.message.Message.TheVariants as messages
use Rattle.table_types.specs.declared.update.Update.{Update}
use Rattle.known_state.specs.State.{State, Step}
use Rattle.known_state.specs.Effects.{IsEffect, carried_by, made, message_refusal}
use Rattle.known_state.specs.declared.effect.Effect.{Effect}
use Rattle.known_state.specs.declared.effect.Refusal.{Refusal}
use Rattle.known_state.specs.declared.effect.Refusal.TheVariants as refusals
use Rattle.known_state.proofs.EffectsAreSteps.{effect_steps}
use Rattle.learner.specs.Faults.{as_fault}
use Rattle.learner.specs.LocalTables.{local_updates}
use Rattle.learner.specs.declared.fault.Fault.{Fault}
use Rattle.learner.specs.declared.fault.Fault.TheVariants as faults
use Rattle.learner.specs.declared.advance.Advance.{Advance}
use Rattle.learner.specs.declared.taken.TakenRef.{TakenRef}
use Rattle.learner.specs.Intake.{Taking, IsTakable, IsRefused, Takes, Stops, Gives, due_after}
use Rattle.learner.specs.Front.{IsFront, Shows, due_made, owned, passed, stopped}

-- what is left of `t` after a message of `used` bytes, with the state `s` and the ids `due`
abbrev pub after_message : Taking → ℕ → State → List ℕ → Taking
after_message t used s due = record { roster = t.roster; state = s; due = due; unread = drop used t.unread; closed = false }

-- a message at the front makes its step through its effect
pub effect_taken : (t e : Taking) (m : Message) (used : ℕ) (effect : Effect) → IsFront t m used → IsEffect t.state m effect → e ≡ after_message t used (made t.state effect) (due_after t.state m t.due) → Takes t m (local_updates t.roster t.state.received (carried_by t.state m effect)) e
effect_taken t e m used effect front effect_is is =
    let state : e.state ≡ made t.state effect = ap (λ (x : Taking). x.state) is in
    let step : Step t.state m (carried_by t.state m effect) e.state = subst (λ (x : State). Step t.state m (carried_by t.state m effect) x) (sym state) (effect_steps t.state m effect front.2 effect_is) in
    (front.0, drop used t.unread, front.1, carried_by t.state m effect, step, refl, is ∙ ap (λ (x : State). after_message t used x (due_after t.state m t.due)) (sym state))

-- what is due after a message is what its effect leaves due
due_is : (s : State) (m : Message) (effect : Effect) (due : List ℕ) → IsEffect s m effect → due_made s effect due ≡ due_after s m due
due_is s (messages.Define d) effect due is = rw is refl
due_is s (messages.Switch id) effect due is = rw is refl
due_is s (messages.Update u) effect due (r, is, resolves) = rw (is, resolves.0) refl
due_is s (messages.Control c) effect due is = rw is refl
due_is s (messages.Error e) effect due is = rw is refl
due_is s (messages.Ack table number) effect due is = rw is refl
due_is s (messages.Other o) effect due is = rw is refl

-- an intake that moves past the message at its front has taken it
pub shown_taken : (t e : Taking) (m : Message) (a : Advance) (shown : TakenRef) → IsFront t m a.used → IsEffect t.state m a.effect → Shows t m a.effect shown → e ≡ passed t a → Gives t (Ok (owned shown)) e
shown_taken t e m a shown front effect shows is =
    let due : due_made t.state a.effect t.due ≡ due_after t.state m t.due = due_is t.state m a.effect t.due effect in
    let left : passed t a ≡ after_message t a.used (made t.state a.effect) (due_after t.state m t.due) =
    ap (λ (ids : List ℕ). record { roster = t.roster; state = made t.state a.effect; due = ids; unread = drop a.used t.unread; closed = t.closed }) due
    ∙ ap (λ (b : Bool). record { roster = t.roster; state = made t.state a.effect; due = due_after t.state m t.due; unread = drop a.used t.unread; closed = b }) front.0 in
    let takes = effect_taken t e m a.used a.effect front effect (is ∙ left) in
    (m, subst (λ (us : List Update). Takes t m us e) (sym shows.0) takes, shows.1)

-- a message that isn't refused can be taken
pub front_takable : (t : Taking) (m : Message) (used : ℕ) → IsFront t m used → message_refusal t.state m ≡ None → IsTakable t
front_takable t m used front unrefused = (m, drop used t.unread, front.1, unrefused)

-- ---- faults

never_so : (o : Option Refusal) (breach : Breach) → ◌≡◌ {A = Option Fault} (option_map as_fault o) (Some (faults.Breach breach)) → ⊥
never_so None breach e = cc
never_so (Some refusals.NoNumber) breach e = cc
never_so (Some refusals.EmptySlot) breach e = cc
never_so (Some refusals.Memory) breach e = cc

never_closed : (o : Option Refusal) → ◌≡◌ {A = Option Fault} (option_map as_fault o) (Some faults.Closed) → ⊥
never_closed None e = cc
never_closed (Some refusals.NoNumber) e = cc
never_closed (Some refusals.EmptySlot) e = cc
never_closed (Some refusals.Memory) e = cc

-- a message at the front that is refused stops the intake, unless memory runs out for it
pub refused_stops : (t : Taking) (m : Message) (used : ℕ) (fault : Fault) → IsFront t m used → IsRefused t.state m fault → Stops t fault (stopped t fault)
refused_stops t m used faults.NoNumber front refused = (front.0, m, drop used t.unread, front.1, refused, refl)
refused_stops t m used faults.EmptySlot front refused = (front.0, m, drop used t.unread, front.1, refused, refl)
refused_stops t m used faults.Memory front refused = (front.0, front_takable t m used front refused, refl)
refused_stops t m used faults.Closed front refused = absurd (never_closed (message_refusal t.state m) refused)
refused_stops t m used (faults.Breach breach) front refused = absurd (never_so (message_refusal t.state m) breach refused)
