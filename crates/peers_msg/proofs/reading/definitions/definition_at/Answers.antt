use Rattle.std.proofs.Common.{arith}
use Rattle.table_types.specs.DataTypes.{all_types}
use Rattle.peers_msg.specs.Borrowed.{list_read}
use Rattle.peers_msg.specs.Reading.{types_at}
use Rattle.peers_msg.proofs.ValidWhenRead.{definition_made}
use Rattle.peers_msg.proofs.reading.definitions.definition_at.Goals as goal

pub new-requires-clause-defined : goal.new-requires-clause-defined
new-requires-clause-defined c =
    definition_made c.args.bytes.now c.in_ok-id.id c.in_ok-id.name.now c.in_ok-id.rest.now c.in_ok-kind.kind c.in_ok-kind.key_length c.in_ok-kind.rest.now c.in_ok-expire.expire (list_read (types_at all_types c.in_ok-expire.bits c.in_ok-expire.periods.now)) c.in_ok-expire.rest.now
    (λ i. omega (arith, c.type_inv.bytes i)) c.in_ok-id.ensures.named c.in_ok-kind.ensures c.in_ok-expire.ensures.stored c.in_ok-ended.ensures
