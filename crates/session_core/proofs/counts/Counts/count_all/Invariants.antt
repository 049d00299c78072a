use Rattle.std.proofs.Common.{◌≡◌, drop}
use Rattle.session_core.specs.AskedCounts.{all_asked}
use Rattle.session_core.proofs.counts.Counts.count_all.Given as goal

abbrev pub invariant-loop-action : goal.invariant-loop-action
invariant-loop-action l = all_asked (drop l.action-index l.actions) l.self ≡ all_asked l.actions l.fn.self
