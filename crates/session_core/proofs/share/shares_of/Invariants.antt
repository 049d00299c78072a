use Rattle.std.proofs.Common.{◌≡◌, ◌++◌, drop}
use Rattle.session_core.specs.Shares.{shares_of}
use Rattle.session_core.proofs.share.shares_of.Given as goal

abbrev pub invariant-loop-table : goal.invariant-loop-table
invariant-loop-table l = l.shares.items ++ shares_of (drop l.table-index l.tables) ≡ shares_of l.tables
