use Rattle.std.proofs.Common.{◌≡◌, drop}
use Rattle.session_core.specs.Shares.{is_out}
use Rattle.session_core.proofs.share.is_out.Given as goal

abbrev pub invariant-loop-share : goal.invariant-loop-share
invariant-loop-share l = is_out l.table (drop l.share-index l.shares) ≡ is_out l.table l.shares
