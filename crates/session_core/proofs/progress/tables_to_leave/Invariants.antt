use Rattle.std.proofs.Common.{◌≡◌, ◌++◌, drop}
use Rattle.session_core.specs.Paces.{tables_to_leave}
use Rattle.session_core.proofs.progress.tables_to_leave.Given as goal

abbrev pub invariant-loop-share : goal.invariant-loop-share
invariant-loop-share l =
    l.tables.items ++ tables_to_leave l.now l.progress (drop l.share-index l.shares) ≡ tables_to_leave l.now l.progress l.shares
