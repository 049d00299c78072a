use Rattle.node_commands.specs.Sharing.{AreKept}
use Rattle.node_commands.proofs.node.sharing.join_all.Given as goal

abbrev pub invariant-loop-thread : goal.invariant-loop-thread
invariant-loop-thread g l = AreKept (λ thread. thread.promise) l.yielded l.all.items
