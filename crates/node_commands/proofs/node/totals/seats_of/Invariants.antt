use Rattle.std.proofs.Common.{◌≡◌, map}
use Rattle.node_commands.proofs.node.totals.seats_of.Given as goal

abbrev pub invariant-loop-one : goal.invariant-loop-one
invariant-loop-one l = l.seats.items ≡ map (λ one. one.worker.seat) l.yielded
