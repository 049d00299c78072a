use Rattle.std.proofs.Common.{◌≡◌, ℕ, ◌<◌, length, slice_index}
use Rattle.retention_flow.proofs.spreading.later_ends.Given as goal

abbrev pub invariant-loop-node : goal.invariant-loop-node
invariant-loop-node l = record {
  long : length l.later.items ≡ length l.arcs;
  within : (node : ℕ) → node < length l.arcs → slice_index l.later.items node < length l.arcs;
}
