use Rattle.std.proofs.Common.{◌≡◌, drop}
use Rattle.session_core.specs.Shares.{first_to_copy}
use Rattle.session_core.proofs.share.first_to_copy.Given as goal

abbrev pub invariant-loop-share : goal.invariant-loop-share
invariant-loop-share l = first_to_copy l.teaching (drop l.share-index l.shares) ≡ first_to_copy l.teaching l.shares
