use Rattle.std.proofs.Common.{◌≡◌, ◌++◌, drop}
use Rattle.table_types.specs.Changes.{begun_cells}
use Rattle.table_types.proofs.tracked.begun_cells.Given as goal

abbrev pub invariant-loop-entry : goal.invariant-loop-entry
invariant-loop-entry l =
    l.begun ++ begun_cells l.fn.moment (drop l.entry-index l.types) ≡ begun_cells l.fn.moment l.types
