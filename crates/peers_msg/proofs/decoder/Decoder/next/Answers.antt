use Rattle.std.proofs.Common.{refl, drop}
use Rattle.peers_msg.specs.BorrowedMessages.{owned_message}
use Rattle.peers_msg.proofs.decoder.Decoder.next.Goals as goal

pub returns-in-Err-to_owned : goal.returns-in-Err-to_owned
returns-in-Err-to_owned c =
    let found = rw c.in-Ok-Some.field-0-is at c.in-Ok-Some.ensures.front in
    rw (← c.self.view_is) (c.if-self.false, (owned_message c.in-Ok-Some.found, drop c.in-Ok-Some.used c.self.inside.unread, found), refl)
