use Rattle.std.proofs.Common.{drop, arith}
use Rattle.node_core.proofs.SameShapes.{all_found}
use Rattle.node_core.proofs.differences.TableShape.differing_rates.Goals as goal

pub returns-in_default : goal.returns-in_default
returns-in_default c =
    all_found c.loop-entry.rates.items (drop c.loop-entry.entry-index c.args.self.now.types) c.loop-entry.rest.now _ (omega (arith, c.in_default.ensures.cases)) c.loop-entry.invariant
