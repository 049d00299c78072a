use Rattle.std.proofs.Common.{◌≡◌, ◌+◌, length}
use Rattle.retention_flow.specs.Network.{unreached}
use Rattle.retention_flow.proofs.distances.find_distances.Given as goal

abbrev pub invariant-loop-node : goal.invariant-loop-node
invariant-loop-node l = record {
  steps : length l.steps.items ≡ length l.network.arcs.now + 1;
  least : length l.found.least.items ≡ length l.network.arcs.now + 1;
}

abbrev pub decreases-loop-node : goal.decreases-loop-node
decreases-loop-node l = unreached l.steps.items
