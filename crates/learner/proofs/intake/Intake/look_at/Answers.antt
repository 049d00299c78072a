use Rattle.std.proofs.Common.{◌≡◌, ◌≤◌, ℕ, true, List, Some, Ok, drop, length, subst, sym}
use Rattle.peers_msg.specs.declared.message.Message.{Message}
use Rattle.peers_msg.specs.Received.{Received}
use Rattle.peers_msg.specs.Reading.{message_at}
use Rattle.peers_msg.specs.Fitting.{fits}
use Rattle.peers_msg.specs.BorrowedMessages.{owned_message}
use Rattle.learner.specs.Intake.{Taking, IsRefused, Stops, with_unread}
use Rattle.learner.specs.Front.{stopped}
use Rattle.learner.proofs.TakingOneMessage.{refused_stops}
use Rattle.learner.proofs.intake.Intake.look_at.Goals as goal

pub returns-in-Err-shown : goal.returns-in-Err-shown
returns-in-Err-shown c =
    let before : Taking = record { roster = c.self.inside.roster; state = c.self.inside.state; due = c.self.inside.due.keys; unread = c.args.bytes.now; closed = c.self.inside.closed } in
    let m : Message = owned_message c.in-Ok-Some.message in
    let used : ℕ = c.in-Ok-Some.used in
    let bytes : List ℕ = c.args.bytes.now in
    let found_there : message_at c.received.result.now bytes ≡ Ok (Some (m, drop used bytes)) = rw c.in-Ok-Some.field-0-is at c.in-Ok-Some.ensures.front in
    let fits_there : fits c.received.result.now m ≡ true = rw c.in-Ok-Some.field-0-is at c.in-Ok-Some.ensures.fits in
    let within : (1 ≤ used) × (used ≤ length bytes) = rw c.in-Ok-Some.field-0-is at c.in-Ok-Some.ensures.within in
    let found : message_at c.self.inside.state.received bytes ≡ Ok (Some (m, drop used bytes)) = subst (λ (h : Received). message_at h bytes ≡ Ok (Some (m, drop used bytes))) c.received.ensures found_there in
    let fit : fits c.self.inside.state.received m ≡ true = subst (λ (h : Received). fits h m ≡ true) c.received.ensures fits_there in
    let refused : IsRefused before.state (owned_message c.in-Ok-Some.message) c.in-Err-shown.fault =
    subst (λ (t : Taking). IsRefused t.state (owned_message c.in-Ok-Some.message) c.in-Err-shown.fault) (sym c.self.view_is) c.in-Err-shown.ensures.refused in
    let stops = refused_stops before (owned_message c.in-Ok-Some.message) c.in-Ok-Some.used c.in-Err-shown.fault (c.if-self.false, found, fit, within.0, within.1) refused in
    record { looks = subst (λ (t : Taking). Stops (with_unread t bytes) c.in-Err-shown.fault (stopped (with_unread t bytes) c.in-Err-shown.fault)) c.self.view_is stops }
