use Rattle.std.proofs.Common.{◌≡◌, ◌++◌, take, drop}
use Rattle.session_core.specs.Shares.{out_set}
use Rattle.session_core.proofs.share.set_out.Given as goal

abbrev pub invariant-loop-share : goal.invariant-loop-share
invariant-loop-share l = take l.share-index l.shares ++ out_set l.table l.out (drop l.share-index l.shares) ≡ out_set l.table l.out l.fn.shares
