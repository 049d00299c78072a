use Rattle.std.proofs.Common.{◌≡◌}
use Rattle.std.specs.Prelude.{filter, slice_get}
use Rattle.table_cell.specs.Machine.{in_reach, is_unacked}
use Rattle.table_cell.proofs.ReachLaws.{is_chosen}
use Rattle.table_cell.proofs.table.Table.first_unacked.Given as goal

abbrev pub invariant-loop-key : goal.invariant-loop-key
invariant-loop-key l =
    slice_get (filter (is_chosen l.fn.kind l.fn.bound l.fn.now) l.key-iterator) 0 ≡ slice_get (filter (is_unacked l.fn.kind l.fn.number l.fn.now) (in_reach l.fn.kind l.fn.bound l.fn.self.rows)) 0
