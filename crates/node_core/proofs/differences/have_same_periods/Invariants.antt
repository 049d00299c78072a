use Rattle.std.proofs.Common.{◌≡◌, drop}
use Rattle.node_core.specs.Differences.{have_same_periods}
use Rattle.node_core.proofs.differences.have_same_periods.Given as goal

abbrev pub invariant-loop-entry : goal.invariant-loop-entry
invariant-loop-entry l = have_same_periods (drop l.entry-index l.own) l.rest ≡ have_same_periods l.own l.theirs
