use Rattle.std.proofs.Common.{◌≡◌, ◌++◌, drop, true}
use Rattle.std.specs.List.{list_all}
use Rattle.table_types.specs.Changes.{cell_types}
use Rattle.table_types.specs.Tables.{has_its_period}
use Rattle.table_cell.specs.Soundness.{CellsFit}
use Rattle.table_cell.specs.Copying.{values_of}
use Rattle.table_cell.proofs.copying.values_of.Given as goal

abbrev pub invariant-loop-entry : goal.invariant-loop-entry
invariant-loop-entry l =
    (l.values ++ values_of l.fn.now (drop l.entry-index l.types) l.rest ≡ values_of l.fn.now l.types l.cells)
    × CellsFit l.fn.now (cell_types (drop l.entry-index l.types)) l.rest
    × (list_all has_its_period (drop l.entry-index l.types) ≡ true)
