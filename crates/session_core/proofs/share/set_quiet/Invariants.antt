use Rattle.std.proofs.Common.{◌≡◌, ◌++◌, take, drop}
use Rattle.session_core.specs.Shares.{quiet_set}
use Rattle.session_core.proofs.share.set_quiet.Given as goal

abbrev pub invariant-loop-share : goal.invariant-loop-share
invariant-loop-share l = take l.share-index l.shares ++ quiet_set l.table (drop l.share-index l.shares) ≡ quiet_set l.table l.fn.shares
