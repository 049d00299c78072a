use Rattle.std.proofs.Common.{◌≡◌, length}
use Rattle.retention_flow.proofs.distances.nearer_raised.Given as goal

abbrev pub invariant-loop-node : goal.invariant-loop-node
invariant-loop-node l = length l.raised.items ≡ l.node
