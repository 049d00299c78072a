use Rattle.std.proofs.Common.{◌≡◌, ◌≤◌, ℕ, Ok, Some, length, drop}
use Rattle.peers_msg.specs.declared.message.Message.TheVariants as messages
use Rattle.peers_msg.specs.Messages.{UpdateFields}
use Rattle.peers_msg.specs.Reading.{message_at}
use Rattle.peers_msg.specs.BorrowedMessages.{owned_message}
use Rattle.tolerant_intake.proofs.PlansMade.{empty_planned}
use Rattle.tolerant_intake.proofs.tolerance.Tolerance.plan_empty.Goals as goal

pub returns : goal.returns
returns c =
    let l = c.args.self.now in
    let t = c.args.intake.now in
    let u : UpdateFields = c.in-Update.update in
    let used : ℕ = c.in-Ok-Some.used in
    let found_there : message_at c.received.result.now c.unread.result.now ≡ Ok (Some (owned_message c.in-Ok-Some.message, drop used c.unread.result.now)) = rw c.in-Ok-Some.field-0-is at c.in-Ok-Some.ensures.front in
    let found : message_at t.state.received t.unread ≡ Ok (Some (messages.Update u, drop used t.unread)) = rw (c.received.ensures, c.state-state.ensures, c.unread.ensures, c.in-Update.is) at found_there in
    let within_there : (1 ≤ used) × (used ≤ length c.unread.result.now) = rw c.in-Ok-Some.field-0-is at c.in-Ok-Some.ensures.within in
    let within : used ≤ length t.unread = rw c.unread.ensures at within_there.1 in
    empty_planned l t u used c.in-Some.plan c.requires.strict c.requires.looks found within_there.0 within
    (λ n is. c.in-Some.ensures.some n (rw (c.state-state.ensures, c.number.ensures.value) is))
