use Rattle.std.proofs.Common.{◌≡◌, ◌++◌, take}
use Rattle.interleave_core.proofs.connection.append_copies.Given as goal

abbrev pub invariant-loop-update : goal.invariant-loop-update
invariant-loop-update l = l.taught.items ≡ l.fn.taught.items ++ take l.update-index l.updates
