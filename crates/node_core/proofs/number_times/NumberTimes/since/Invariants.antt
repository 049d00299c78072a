use Rattle.std.proofs.Common.{◌≡◌, drop}
use Rattle.node_core.specs.NumberTimes.{since}
use Rattle.node_core.proofs.number_times.NumberTimes.since.Given as goal

-- the first of those not yet looked at is the first of all
abbrev pub invariant-loop-look : goal.invariant-loop-look
invariant-loop-look l = since l.number (drop l.look-index l.look-items) ≡ since l.number l.self
