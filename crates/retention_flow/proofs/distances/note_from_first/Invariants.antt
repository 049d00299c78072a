use Rattle.std.proofs.Common.{◌≡◌, length}
use Rattle.retention_flow.proofs.distances.note_from_first.Given as goal

abbrev pub invariant-loop-place : goal.invariant-loop-place
invariant-loop-place l = length l.found.least.items ≡ length l.fn.found.least.items
