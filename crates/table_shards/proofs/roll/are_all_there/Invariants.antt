use Rattle.std.proofs.Common.{◌≡◌, ℕ, ◌≤◌}
use Rattle.std.specs.List.{count_by}
use Rattle.table_shards.specs.Roll.{has_number}
use Rattle.table_shards.proofs.roll.are_all_there.Given as goal

abbrev pub invariant-loop-before : goal.invariant-loop-before
invariant-loop-before l = (number : ℕ) → 1 ≤ number → number ≤ l.before → count_by (has_number number) l.seats ≡ 1
