use Rattle.std.proofs.Common.{ℕ, ◌<◌, ◌≤◌, slice_index}
use Rattle.retention_flow.proofs.room.greatest.Given as goal

abbrev pub invariant-loop-count : goal.invariant-loop-count
invariant-loop-count l = record {
  range : (l.least ≤ l.most) × (l.most ≤ 4096);
  most : (index : ℕ) → index < l.count-index → slice_index l.counts index ≤ l.most;
}
