use Rattle.std.proofs.Common.{◌≡◌, drop}
use Rattle.session_core.specs.Shares.{all_quiet}
use Rattle.session_core.proofs.share.all_quiet.Given as goal

abbrev pub invariant-loop-share : goal.invariant-loop-share
invariant-loop-share l = all_quiet (drop l.share-index l.shares) ≡ all_quiet l.shares
