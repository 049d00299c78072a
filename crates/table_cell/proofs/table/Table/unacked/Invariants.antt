use Rattle.std.proofs.Common.{◌≡◌, ◌-◌, ◌++◌, length}
use Rattle.std.specs.Prelude.{filter, map, take}
use Rattle.std.specs.List.{AllByRecursion}
use Rattle.table_cell.specs.Machine.{in_reach, is_unacked}
use Rattle.table_cell.specs.Soundness.{EntryFits}
use Rattle.table_cell.specs.Copying.{update_of}
use Rattle.table_cell.proofs.ReachLaws.{is_chosen}
use Rattle.table_cell.proofs.table.Table.unacked.Given as goal

abbrev pub invariant-loop-key : goal.invariant-loop-key
invariant-loop-key l =
    (l.updates.items ++ take (l.fn.limit - length l.updates.items) (map (update_of l.fn.progress.version l.fn.self.definition l.fn.now) (filter (is_chosen l.fn.kind l.fn.progress.bound l.fn.now) l.key-iterator))
    ≡ take l.fn.limit (map (update_of l.fn.progress.version l.fn.self.definition l.fn.now) (filter (is_unacked l.fn.kind l.fn.progress.acknowledged l.fn.now) (in_reach l.fn.kind l.fn.progress.bound l.fn.self.rows))))
    × AllByRecursion (EntryFits l.fn.self.definition l.fn.now) l.key-iterator
