use Rattle.std.proofs.Common.{◌≡◌, ◌++◌, drop}
use Rattle.table_types.specs.Changes.{changed_cells}
use Rattle.table_types.proofs.tracked.changed_cells.Given as goal

abbrev pub invariant-loop-entry : goal.invariant-loop-entry
invariant-loop-entry l =
    l.changed ++ changed_cells l.fn.moment l.fn.change (drop l.entry-index l.types) l.rest ≡ changed_cells l.fn.moment l.fn.change l.types l.cells
