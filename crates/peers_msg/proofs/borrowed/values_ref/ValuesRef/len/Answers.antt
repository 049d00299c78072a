use Rattle.std.proofs.Common.{length, sym, ap, ◌∙◌}
use Rattle.peers_msg.proofs.ReadingLoops.{values_counted}
use Rattle.peers_msg.proofs.borrowed.values_ref.ValuesRef.len.Goals as goal

pub returns : goal.returns
returns c =
    c.value_count.ensures ∙ sym (values_counted c.self.inside.types.now c.self.inside.bytes.now c.self.invariant) ∙ ap length c.self.view_is
