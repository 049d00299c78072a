use Rattle.std.proofs.Common.{◌≡◌, drop}
use Rattle.session_core.specs.Paces.{is_ahead}
use Rattle.session_core.proofs.progress.is_ahead.Given as goal

abbrev pub invariant-loop-entry : goal.invariant-loop-entry
invariant-loop-entry l = is_ahead l.table (drop l.entry-index l.progress) ≡ is_ahead l.table l.progress
