use Rattle.std.proofs.Common.{◌∙◌, refl, sym, arith}
use Rattle.peers_msg.proofs.ValidWhenRead.{other_made}
use Rattle.peers_msg.proofs.reading.messages.message_at.Goals as goal

pub message_of-requires : goal.message_of-requires
message_of-requires c = λ e. other_made c.args.bytes.now (record { class = c.in-Some.frame.class; message_type = c.in-Some.frame.message_type; body = c.in-Some.frame.body.now }, c.in-Some.rest.now) (λ i. omega (arith, c.type_inv.bytes i)) (c.in_ok-frame.ensures.frame ∙ rw c.in-Some.is refl) (sym c.meant-meaning.ensures ∙ e)
