use Rattle.std.proofs.Common.{◌≡◌, ◌++◌, drop}
use Rattle.retention_flow.specs.Network.{prices_of}
use Rattle.retention_flow.proofs.plans.prices_of.Given as goal

abbrev pub invariant-loop-node : goal.invariant-loop-node
invariant-loop-node l = l.prices.items ++ prices_of (drop l.node l.heights) ≡ prices_of l.heights
