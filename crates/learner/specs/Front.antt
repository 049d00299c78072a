-- The message at the front of the unread bytes: what it gives, and how an intake moves past it.
use Rattle.std.specs.Prelude.{◌≡◌, ◌≤◌, ℕ, false, true, List, length, drop, Option, Some, None, Result, Ok, Err}
use Rattle.peers_msg.specs.declared.message.Message.{Message}
use Rattle.peers_msg.specs.Reading.{message_at}
use Rattle.peers_msg.specs.Fitting.{fits}
use Rattle.known_state.specs.State.{State}
use Rattle.known_state.specs.Effects.{IsEffect, carried_by, made}
use Rattle.known_state.specs.declared.effect.Effect.{Effect}
use Rattle.known_state.specs.declared.effect.Effect.TheVariants as effects
use Rattle.learner.specs.declared.fault.Fault.{Fault}
use Rattle.learner.specs.declared.fault.Fault.TheVariants as faults
use Rattle.learner.specs.declared.advance.Advance.{Advance}
use Rattle.learner.specs.declared.taken.Taken.{Taken}
use Rattle.learner.specs.declared.taken.Taken.TheVariants as taken
use Rattle.learner.specs.declared.taken.TakenRef.{TakenRef}
use Rattle.learner.specs.declared.taken.TakenRef.TheVariants as borrowed
use Rattle.learner.specs.LocalTables.{local_updates}
use Rattle.learner.specs.Intake.{Taking, Stops, Answers, rows_of, shut, with_due, with_unread}

-- a borrowed message as an owned one
abbrev pub owned : TakenRef → Taken
owned (borrowed.Row u) = taken.Row u
owned borrowed.Passed = taken.Passed
owned (borrowed.Said c) = taken.Said c
owned (borrowed.Failed e) = taken.Failed e
owned (borrowed.Acked table number) = taken.Acked table number

-- what a message with this effect gives: the updates of local tables among those it carries, or its meaning
abbrev pub Shows : Taking → Message → Effect → TakenRef → Type 0
Shows t m effect shown = (rows_of (owned shown) ≡ local_updates t.roster t.state.received (carried_by t.state m effect)) × Answers m (owned shown)

-- what is left of an intake that a fault stops
abbrev pub stopped : Taking → Fault → Taking
stopped t faults.Memory = t
stopped t faults.Closed = t
stopped t fault = shut t

-- the message `m` is at the front, and has `used` bytes
abbrev pub IsFront : Taking → Message → ℕ → Type 0
IsFront t m used =
    (t.closed ≡ false)
    × (message_at t.state.received t.unread ≡ Ok (Some (m, drop used t.unread)))
    × (fits t.state.received m ≡ true)
    × (1 ≤ used)
    × (used ≤ length t.unread)

-- what is at the front
abbrev pub Looks : Taking → Result (Option (TakenRef × Advance)) Fault → Type 0
Looks t (Ok None) = (t.closed ≡ false) × (message_at t.state.received t.unread ≡ Ok None)
Looks t (Ok (Some found)) = (m : Message) × IsFront t m found.1.used × IsEffect t.state m found.1.effect × Shows t m found.1.effect found.0
Looks t (Err fault) = Stops t fault (stopped t fault)

-- the ids that are due after an effect
abbrev pub due_made : State → Effect → List ℕ → List ℕ
due_made s (effects.Update r) due = with_due (Some r.table) due
due_made s effect due = due

-- an effect is applied to the state and to what is due
abbrev pub with_effect : Taking → Effect → Taking
with_effect t effect = record t { state = made t.state effect; due = due_made t.state effect t.due }

-- what is left of an intake that moves past the message at its front
abbrev pub passed : Taking → Advance → Taking
passed t a = with_unread (with_effect t a.effect) (drop a.used t.unread)
