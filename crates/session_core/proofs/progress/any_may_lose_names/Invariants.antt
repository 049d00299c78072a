use Rattle.std.proofs.Common.{◌≡◌, drop}
use Rattle.std.specs.List.{list_any}
use Rattle.session_core.specs.Paces.{may_lose_names}
use Rattle.session_core.proofs.progress.any_may_lose_names.Given as goal

abbrev pub invariant-loop-share : goal.invariant-loop-share
invariant-loop-share l = list_any (may_lose_names l.progress) (drop l.share-index l.shares) ≡ list_any (may_lose_names l.progress) l.shares
