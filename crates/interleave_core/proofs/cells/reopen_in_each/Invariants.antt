use Rattle.interleave_core.specs.Opened.{CanReopen}
use Rattle.interleave_core.specs.Worlds.{with_session_anew}
use Rattle.interleave_core.proofs.InEach.{IsDoneTo}
use Rattle.interleave_core.proofs.cells.reopen_in_each.Given as goal

abbrev pub invariant-loop-cell : goal.invariant-loop-cell
invariant-loop-cell l = IsDoneTo (CanReopen l.session) (with_session_anew l.session l.version) l.fn.cells l.cells l.cell-index
