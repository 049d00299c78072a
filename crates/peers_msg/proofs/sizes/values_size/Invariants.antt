use Rattle.std.proofs.Common.{◌≡◌, ◌+◌, ◌*◌, ◌≤◌, drop, length}
use Rattle.std.specs.List.{flat_map}
use Rattle.peers_msg.specs.Spelling.{value_text}
use Rattle.peers_msg.proofs.sizes.values_size.Given as goal

abbrev pub invariant-loop-value : goal.invariant-loop-value
invariant-loop-value l =
    (l.total + length (flat_map value_text (drop l.value-index l.values)) ≡ length (flat_map value_text l.values))
    × (l.total ≤ 30 * l.value-index)
