use Rattle.retention_flow.proofs.SlotsAreAdded.{IsLooped}
use Rattle.retention_flow.proofs.adding.keep_loops.Given as goal

abbrev pub invariant-loop-node : goal.invariant-loop-node
invariant-loop-node l = IsLooped l.fn.arcs l.arcs l.node
