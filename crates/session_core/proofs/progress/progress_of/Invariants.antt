use Rattle.std.proofs.Common.{◌≡◌, ◌++◌, drop}
use Rattle.session_core.specs.Paces.{progress_of}
use Rattle.session_core.proofs.progress.progress_of.Given as goal

abbrev pub invariant-loop-table : goal.invariant-loop-table
invariant-loop-table l = l.progress.items ++ progress_of l.now (drop l.table-index l.tables) ≡ progress_of l.now l.tables
