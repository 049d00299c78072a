use Rattle.std.proofs.Common.{◌≡◌, ◌+◌, ◌*◌, ◌≤◌, drop, length}
use Rattle.std.specs.List.{flat_map}
use Rattle.peers_msg.specs.Spelling.{period_text}
use Rattle.peers_msg.proofs.sizes.periods_size.Given as goal

abbrev pub invariant-loop-entry : goal.invariant-loop-entry
invariant-loop-entry l =
    (l.total + length (flat_map period_text (drop l.entry-index l.types)) ≡ length (flat_map period_text l.types))
    × (l.total ≤ 20 * l.entry-index)
