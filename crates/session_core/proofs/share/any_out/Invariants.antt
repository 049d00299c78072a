use Rattle.std.proofs.Common.{◌≡◌, drop}
use Rattle.session_core.specs.Shares.{any_out}
use Rattle.session_core.proofs.share.any_out.Given as goal

abbrev pub invariant-loop-share : goal.invariant-loop-share
invariant-loop-share l = any_out (drop l.share-index l.shares) ≡ any_out l.shares
