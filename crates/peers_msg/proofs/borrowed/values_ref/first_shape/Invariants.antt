use Rattle.std.proofs.Common.{◌≡◌, ℕ, List, drop}
use Rattle.peers_msg.specs.Reading.{values_at}
use Rattle.peers_msg.proofs.borrowed.values_ref.first_shape.Given as goal

abbrev pub invariant-loop-index : goal.invariant-loop-index
invariant-loop-index l =
    (bytes : List ℕ) → values_at (drop l.index l.types) bytes ≡ values_at l.types bytes
