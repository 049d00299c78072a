use Rattle.std.proofs.Common.{◌≡◌, ℕ, ◌+◌, ◌<◌, ◌≤◌, length, slice_index}
use Rattle.retention_flow.proofs.room.take_from.Given as goal

abbrev pub invariant-loop-index : goal.invariant-loop-index
invariant-loop-index l = record {
  long : length l.counts ≡ length l.fn.counts;
  done : (index : ℕ) → index < l.index → slice_index l.counts index + slice_index l.fn.counts index ≡ l.most;
  rest : (index : ℕ) → l.index ≤ index → slice_index l.counts index ≡ slice_index l.fn.counts index;
}
