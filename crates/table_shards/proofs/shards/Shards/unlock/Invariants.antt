use Rattle.std.proofs.Common.{◌≡◌, ◌≤◌, length, map, vec_capacity}
use Rattle.table_shards.specs.Audits.{table_rounds}
use Rattle.table_shards.specs.Rounds.{begun}
use Rattle.table_shards.proofs.shards.Shards.unlock.Given as goal

abbrev pub invariant-loop-shard : goal.invariant-loop-shard
invariant-loop-shard l = record {
  moved : table_rounds l.tables.items ≡ map begun l.yielded;
  as_many : length l.tables.items ≡ length l.yielded;
  room : length l.fn.self.cells ≤ vec_capacity l.tables;
}
