use Rattle.std.proofs.Common.{length, ◌-◌}
use Rattle.price_checker.proofs.StreamIsReadOn.{IsReadTo}
use Rattle.price_checker.proofs.reading.read_messages.Given as goal

abbrev pub invariant-loop-place : goal.invariant-loop-place
invariant-loop-place l = IsReadTo l.known l.updates l.stream l.place l.comparison l.after

abbrev pub decreases-loop-place : goal.decreases-loop-place
decreases-loop-place l = length l.stream - l.place
