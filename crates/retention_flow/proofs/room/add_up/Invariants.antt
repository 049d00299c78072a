use Rattle.std.proofs.Common.{◌≡◌, ℕ, ◌+◌, ◌<◌, ◌≤◌, length, slice_index}
use Rattle.known_state.specs.Plans.{kept_over}
use Rattle.retention_flow.specs.Network.{links_of}
use Rattle.retention_flow.proofs.room.add_up.Given as goal

abbrev pub invariant-loop-node : goal.invariant-loop-node
invariant-loop-node l = record {
  long : length l.counts ≡ length l.arcs;
  passing : l.passing ≡ kept_over (links_of 0 l.arcs) l.node;
  done : (node : ℕ) → node < l.node → slice_index l.counts node ≡ kept_over (links_of 0 l.arcs) (node + 1);
  rest : (node : ℕ) → l.node ≤ node → slice_index l.counts node ≡ slice_index l.fn.counts node;
}
