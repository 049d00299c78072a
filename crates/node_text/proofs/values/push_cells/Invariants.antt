use Rattle.std.proofs.Common.{◌≡◌, ◌++◌, drop}
use Rattle.std.specs.List.{flat_map}
use Rattle.node_text.specs.Values.{cell_text}
use Rattle.node_text.proofs.values.push_cells.Given as goal

abbrev pub invariant-loop-cell : goal.invariant-loop-cell
invariant-loop-cell l =
    l.text.items ++ flat_map cell_text (drop l.cell-index l.cells) ≡ l.fn.text.items ++ flat_map cell_text l.cells
