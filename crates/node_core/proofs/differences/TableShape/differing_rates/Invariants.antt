use Rattle.std.proofs.Common.{◌≡◌, ◌++◌, drop}
use Rattle.node_core.specs.Differences.{differing_rates}
use Rattle.node_core.proofs.differences.TableShape.differing_rates.Given as goal

abbrev pub invariant-loop-entry : goal.invariant-loop-entry
invariant-loop-entry l = l.rates.items ++ differing_rates (drop l.entry-index l.self.types) l.rest ≡ differing_rates l.self.types l.other.types
