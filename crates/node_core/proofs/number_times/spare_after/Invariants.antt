use Rattle.std.proofs.Common.{◌≡◌, ◌+◌, drop}
use Rattle.std.specs.Prelude.{option_map}
use Rattle.node_core.specs.NumberTimes.{spare_after}
use Rattle.node_core.proofs.number_times.spare_after.Given as goal

-- the first of those not yet looked at is the first of all
abbrev pub invariant-loop-index : goal.invariant-loop-index
invariant-loop-index l =
    option_map (λ n. n + l.index) (spare_after l.now l.earlier l.between (drop l.index l.looks)) ≡ spare_after l.now l.fn.first l.fn.second l.looks
