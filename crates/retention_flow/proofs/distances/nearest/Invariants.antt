use Rattle.std.specs.BinaryHeap.{heap_len}
use Rattle.retention_flow.proofs.distances.nearest.Given as goal

abbrev pub decreases-loop-node : goal.decreases-loop-node
decreases-loop-node l = heap_len l.heap
