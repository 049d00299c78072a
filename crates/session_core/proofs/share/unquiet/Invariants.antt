use Rattle.std.proofs.Common.{◌≡◌, ◌++◌, take, drop}
use Rattle.session_core.specs.Shares.{unquieted}
use Rattle.session_core.proofs.share.unquiet.Given as goal

abbrev pub invariant-loop-share : goal.invariant-loop-share
invariant-loop-share l = take l.share-index l.shares ++ unquieted (drop l.share-index l.shares) ≡ unquieted l.fn.shares
