use Rattle.std.proofs.Common.{◌≡◌, drop}
use Rattle.session_core.specs.Paces.{may_lose_names}
use Rattle.session_core.proofs.progress.may_lose_names.Given as goal

abbrev pub invariant-loop-entry : goal.invariant-loop-entry
invariant-loop-entry l = may_lose_names (drop l.entry-index l.progress) l.share ≡ may_lose_names l.progress l.share
