use Rattle.std.proofs.Common.{◌≡◌, Some, drop}
use Rattle.session_core.specs.Paces.{inferred}
use Rattle.session_core.proofs.progress.inferred.Given as goal

abbrev pub invariant-loop-entry : goal.invariant-loop-entry
invariant-loop-entry l = inferred (Some l.table) (drop l.entry-index l.progress) ≡ inferred (Some l.table) l.progress
