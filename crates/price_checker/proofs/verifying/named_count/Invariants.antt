use Rattle.std.proofs.Common.{◌≡◌, ◌+◌, ◌≤◌, drop}
use Rattle.price_checker.specs.NamedUpdates.{named_count}
use Rattle.price_checker.proofs.verifying.named_count.Given as goal

abbrev pub invariant-loop-update : goal.invariant-loop-update
invariant-loop-update l = (l.count + named_count (drop l.update-index l.updates) ≡ named_count l.updates) × (l.count ≤ l.update-index)
