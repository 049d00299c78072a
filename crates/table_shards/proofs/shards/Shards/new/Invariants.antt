use Rattle.std.proofs.Common.{◌≡◌}
use Rattle.table_shards.specs.Rounds.{fresh_seats}
use Rattle.table_shards.proofs.shards.Shards.new.Given as goal

abbrev pub invariant-loop-cell : goal.invariant-loop-cell
invariant-loop-cell l = l.shards.items ≡ l.yielded

abbrev pub invariant-loop-before : goal.invariant-loop-before
invariant-loop-before l = l.made.items ≡ fresh_seats l.before
