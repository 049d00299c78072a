use Rattle.std.proofs.Common.{◌≡◌, List, ℕ, Option, Some, Result, Ok, refl, sym, ap, ◌∙◌, arith}
use Rattle.peers_msg.specs.declared.message.Message.{Message}
use Rattle.peers_msg.specs.declared.fault.Breach.{Breach}
use Rattle.peers_msg.specs.BorrowedMessages.{owned_message}
use Rattle.peers_msg.specs.Reading.{message_at}
use Rattle.peers_msg.proofs.MessageCanonical.{rest_is_end, message_takes}
use Rattle.peers_msg.proofs.unread.front.Goals as goal

pub overflow_sub-used : goal.overflow_sub-used
overflow_sub-used c =
    let read : message_at c.args.received.now c.args.bytes.now ≡ Ok (Some (owned_message c.in-Some.message, c.in-Some.rest.now)) = c.in_ok-message.ensures ∙ rw c.in-Some.is refl in
    omega (arith, (rest_is_end c.args.received.now (owned_message c.in-Some.message) c.args.bytes.now c.in-Some.rest.now (λ i. omega (arith, c.type_inv.bytes i)) read).1)

pub returns-clause-front : goal.returns-clause-front
returns-clause-front c =
    let read : message_at c.args.received.now c.args.bytes.now ≡ Ok (Some (owned_message c.in-Some.message, c.in-Some.rest.now)) = c.in_ok-message.ensures ∙ rw c.in-Some.is refl in
    let end = (rest_is_end c.args.received.now (owned_message c.in-Some.message) c.args.bytes.now c.in-Some.rest.now (λ i. omega (arith, c.type_inv.bytes i)) read).0 in
    read ∙ ap (λ (rest : List ℕ). found (owned_message c.in-Some.message) rest) (sym end)
  where
    found : Message → List ℕ → Result (Option (Message × List ℕ)) Breach
    found m rest = Ok (Some (m, rest))

pub returns-clause-within : goal.returns-clause-within
returns-clause-within c =
    let read : message_at c.args.received.now c.args.bytes.now ≡ Ok (Some (owned_message c.in-Some.message, c.in-Some.rest.now)) = c.in_ok-message.ensures ∙ rw c.in-Some.is refl in
    let end = rest_is_end c.args.received.now (owned_message c.in-Some.message) c.args.bytes.now c.in-Some.rest.now (λ i. omega (arith, c.type_inv.bytes i)) read in
    let fewer = end.1 in
    (omega arith, omega arith)

pub returns-clause-fits : goal.returns-clause-fits
returns-clause-fits c =
    let read : message_at c.args.received.now c.args.bytes.now ≡ Ok (Some (owned_message c.in-Some.message, c.in-Some.rest.now)) = c.in_ok-message.ensures ∙ rw c.in-Some.is refl in
    (message_takes c.args.received.now (owned_message c.in-Some.message) c.args.bytes.now c.in-Some.rest.now (λ i. omega (arith, c.type_inv.bytes i)) read).1
