use Rattle.std.proofs.Common.{◌≡◌, ℕ, ◌+◌, ◌&&◌, length, slice_index, if◌then◌else◌}
use Rattle.std.specs.Prelude.{nat_lt}
use Rattle.retention_flow.specs.Network.{is_reached}
use Rattle.retention_flow.proofs.raising.raise.Given as goal

abbrev pub invariant-loop-node : goal.invariant-loop-node
invariant-loop-node l = record {
  long : length l.heights ≡ length l.fn.heights;
  raised : (node : ℕ) → slice_index l.heights node ≡ slice_index l.fn.heights node + (if nat_lt node l.node && is_reached l.steps node then l.by else 0);
}
