use Rattle.std.proofs.Common.{◌≡◌, drop}
use Rattle.table_shards.specs.NextRounds.{has_batch_out}
use Rattle.table_shards.proofs.next_round.has_batch_out.Given as goal

abbrev pub invariant-loop-table : goal.invariant-loop-table
invariant-loop-table l = has_batch_out (drop l.table-index l.tables) ≡ has_batch_out l.tables
