use Rattle.std.proofs.Common.{◌≡◌, ◌==◌, drop}
use Rattle.std.specs.List.{list_any}
use Rattle.table_shards.specs.Agreement.{id_of}
use Rattle.table_shards.proofs.shards.Shards.cell.Given as goal

abbrev pub invariant-loop-shard : goal.invariant-loop-shard
invariant-loop-shard l = list_any (λ c. id_of c == l.table) (drop l.shard-index l.shard-items) ≡ list_any (λ c. id_of c == l.table) l.self.cells
