use Rattle.std.proofs.Common.{◌≡◌, drop, nat_le}
use Rattle.std.specs.List.{list_all}
use Rattle.table_cell.specs.Histories.{room_of}
use Rattle.interleave_core.proofs.cells.has_room_for.Given as goal

abbrev pub invariant-loop-cell : goal.invariant-loop-cell
invariant-loop-cell l =
    list_all (λ c. nat_le l.events (room_of c)) (drop l.cell-index l.cells) ≡ list_all (λ c. nat_le l.events (room_of c)) l.cells
