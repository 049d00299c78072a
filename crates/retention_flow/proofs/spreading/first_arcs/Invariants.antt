use Rattle.std.proofs.Common.{ℕ, ◌<◌, length, slice_index}
use Rattle.retention_flow.proofs.spreading.first_arcs.Given as goal

abbrev pub invariant-loop-index : goal.invariant-loop-index
invariant-loop-index l = (place : ℕ) → place < length l.first.items → slice_index l.first.items place < length l.arcs
