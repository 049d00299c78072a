use Rattle.std.proofs.Common.{◌≡◌, ◌++◌, drop}
use Rattle.std.specs.List.{flat_map}
use Rattle.node_text.specs.Acks.{ack_line}
use Rattle.node_text.proofs.acks.push_acks.Given as goal

abbrev pub invariant-loop-message : goal.invariant-loop-message
invariant-loop-message l =
    l.text.items ++ flat_map ack_line (drop l.message-index l.acks) ≡ l.fn.text.items ++ flat_map ack_line l.acks
