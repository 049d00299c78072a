use Rattle.std.proofs.Common.{◌≡◌, ◌++◌, drop, map}
use Rattle.table_types.specs.Rows.{cell_of}
use Rattle.table_types.proofs.row.cells_of.Given as goal

abbrev pub invariant-loop-value : goal.invariant-loop-value
invariant-loop-value l =
    l.cells ++ map (cell_of l.fn.moment) (drop l.value-index l.values) ≡ map (cell_of l.fn.moment) l.values
