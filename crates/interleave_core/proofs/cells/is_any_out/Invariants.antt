use Rattle.std.proofs.Common.{◌≡◌, drop}
use Rattle.std.specs.List.{list_any}
use Rattle.table_cell.specs.Machine.{has_out, progress_of}
use Rattle.interleave_core.proofs.cells.is_any_out.Given as goal

abbrev pub invariant-loop-cell : goal.invariant-loop-cell
invariant-loop-cell l =
    list_any (λ x. has_out (progress_of l.session x.state)) (drop l.cell-index l.cells) ≡ list_any (λ x. has_out (progress_of l.session x.state)) l.cells
