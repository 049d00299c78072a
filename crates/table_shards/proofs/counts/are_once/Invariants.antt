use Rattle.std.proofs.Common.{◌-◌, ◌≤◌}
use Rattle.table_shards.specs.Counts.{AreOnce}
use Rattle.table_shards.proofs.counts.are_once.Given as goal

abbrev pub invariant-loop-counted : goal.invariant-loop-counted
invariant-loop-counted l = record {
  once : AreOnce l.table l.seats l.from l.counted;
  begun : l.from ≤ l.counted;
}

abbrev pub decreases-loop-counted : goal.decreases-loop-counted
decreases-loop-counted l = l.last - l.counted
