use Rattle.std.proofs.Common.{◌≡◌}
use Rattle.std.specs.List.{AllByRecursion}
use Rattle.node_commands.proofs.rounds.fn.run_threads.scope.Given as goal

abbrev pub invariant-loop-seat : goal.invariant-loop-seat
invariant-loop-seat g l = AllByRecursion (λ handle. handle.promise ≡ l.asked) l.handles.items
