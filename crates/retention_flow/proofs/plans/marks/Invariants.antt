use Rattle.std.proofs.Common.{◌≡◌, ◌++◌, drop}
use Rattle.retention_flow.specs.Network.{marks}
use Rattle.retention_flow.proofs.plans.marks.Given as goal

abbrev pub invariant-loop-arc : goal.invariant-loop-arc
invariant-loop-arc l = l.keep.items ++ marks (drop l.arc-index l.arcs) ≡ marks l.arcs
