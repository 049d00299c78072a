use Rattle.std.proofs.Common.{List, ℕ, Ok, Some, drop, ap, ◌∙◌}
use Rattle.peers_msg.specs.Reading.{message_at}
use Rattle.peers_msg.specs.BorrowedMessages.{owned_message}
use Rattle.price_checker.proofs.StreamIsReadOn.{front_begins, refused_at_once}
use Rattle.price_checker.proofs.reading.read_in_place.Goals as goal

pub returns-in-Some-clause-read : goal.returns-in-Some-clause-read
returns-in-Some-clause-read c = λ us.
    let k = c.args.known.now in
    let stream = c.args.stream.now in
    let message = c.in-Ok-Some.message in
    let used = c.in-Ok-Some.field-0-0-1 in
    let at = front_begins k stream c.received.result.now c.front.result (message, used) c.received.ensures c.front.ensures.front (c.in-Ok-Some.is ∙ ap (λ f. Ok f) c.in-Ok-Some.field-0-is) in
    refused_at_once k stream (drop used stream) (owned_message message) c.in-Some.error at c.in-Some.ensures.refused

pub returns-in-None-clause-message : goal.returns-in-None-clause-message
returns-in-None-clause-message c =
    let k = c.args.known.now in
    let stream = c.args.stream.now in
    let message = c.in-Ok-Some.message in
    let used = c.in-Ok-Some.field-0-0-1 in
    let at = front_begins k stream c.received.result.now c.front.result (message, used) c.received.ensures c.front.ensures.front (c.in-Ok-Some.is ∙ ap (λ f. Ok f) c.in-Ok-Some.field-0-is) in
    (owned_message message, drop used stream, at, c.in-None.ensures.taken)
