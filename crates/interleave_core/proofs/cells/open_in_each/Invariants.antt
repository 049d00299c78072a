use Rattle.interleave_core.specs.Opened.{CanOpen}
use Rattle.interleave_core.specs.Worlds.{with_session}
use Rattle.interleave_core.proofs.InEach.{IsDoneTo}
use Rattle.interleave_core.proofs.cells.open_in_each.Given as goal

abbrev pub invariant-loop-cell : goal.invariant-loop-cell
invariant-loop-cell l = IsDoneTo (CanOpen l.session) (with_session l.session l.version) l.fn.cells l.cells l.cell-index
