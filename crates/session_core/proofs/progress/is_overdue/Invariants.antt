use Rattle.std.proofs.Common.{◌≡◌, drop}
use Rattle.session_core.specs.Paces.{is_overdue}
use Rattle.session_core.proofs.progress.is_overdue.Given as goal

abbrev pub invariant-loop-entry : goal.invariant-loop-entry
invariant-loop-entry l = is_overdue l.now (drop l.entry-index l.progress) l.share ≡ is_overdue l.now l.progress l.share
