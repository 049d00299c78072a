use Rattle.std.proofs.Common.{◌≡◌, ◌++◌, take, drop}
use Rattle.session_core.specs.Shares.{through, past}
use Rattle.session_core.proofs.share.split.Given as goal

abbrev pub invariant-loop-index : goal.invariant-loop-index
invariant-loop-index l = record {
  through : take l.index l.shares ++ through l.table (drop l.index l.shares) ≡ through l.table l.shares;
  past : past l.table (drop l.index l.shares) ≡ past l.table l.shares;
}
