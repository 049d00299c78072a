use Rattle.std.proofs.Common.{◌≡◌, ◌≤◌, length, map, vec_capacity}
use Rattle.table_cell.specs.Histories.{begun_anew}
use Rattle.table_shards.proofs.next_round.lock_anew.Given as goal

abbrev pub invariant-loop-table : goal.invariant-loop-table
invariant-loop-table l = record {
  moved : l.done.items ≡ map (λ t. begun_anew t.cell) l.yielded;
  as_many : length l.done.items ≡ length l.yielded;
  room : length l.fn.tables.items ≤ vec_capacity l.done;
}
