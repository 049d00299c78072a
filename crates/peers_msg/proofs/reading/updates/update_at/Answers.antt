use Rattle.std.proofs.Common.{arith, ap, ◌∙◌}
use Rattle.peers_msg.specs.Borrowed.{list_read, owned_key}
use Rattle.peers_msg.specs.Messages.{is_small}
use Rattle.peers_msg.specs.Reading.{values_at}
use Rattle.peers_msg.proofs.ValidWhenRead.{update_made, rest_is_bytes}
use Rattle.peers_msg.proofs.reading.updates.update_at.Goals as goal

pub new-requires-clause-small : goal.new-requires-clause-small
new-requires-clause-small c =
    let good = rest_is_bytes c.args.numbered c.args.bytes.now c.in_ok-number.number c.in_ok-number.rest.now (λ i. omega (arith, c.type_inv.bytes i)) c.in_ok-number.ensures in
    let later = rest_is_bytes c.args.timed c.in_ok-number.rest.now c.in_ok-life.life c.in_ok-life.rest.now good c.in_ok-life.ensures in
    ap (is_small (owned_key c.in_ok-key.key)) c.new-values.ensures
    ∙ update_made c.args.table.now c.kind.result c.key_length.result c.types-types.result.now c.in_ok-life.rest.now (owned_key c.in_ok-key.key) c.in_ok-key.values.now (list_read (values_at c.types-types.result.now c.in_ok-key.values.now)) c.in_ok-rest.rest.now
    c.id.ensures.defined c.kind.ensures c.key_length.ensures c.types-types.ensures later c.in_ok-key.ensures c.in_ok-rest.ensures
