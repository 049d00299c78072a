use Rattle.node_commands.specs.Sharing.{AreStarted}
use Rattle.node_commands.proofs.node.sharing.start_all.Given as goal

abbrev pub invariant-loop-worker : goal.invariant-loop-worker
invariant-loop-worker g l = AreStarted (λ thread. thread.promise) l.shards l.turns l.yielded l.threads.items
