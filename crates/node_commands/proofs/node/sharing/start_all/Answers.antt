use Rattle.std.proofs.Common.{rules, ◌≡◌, [], ◌∷◌, ◌++◌, subst, sym}
use Rattle.node_commands.specs.Sharing.{AreStarted}
use Rattle.node_commands.proofs.SharingLaws.{one_more_started}
use Rattle.node_commands.proofs.node.sharing.start_all.Goals as goal

pub loop-worker-preserved : goal.loop-worker-preserved
loop-worker-preserved g c =
    let pushed : c.push.new.self.items ≡ c.loop-worker.threads.items ++ c.in_ok-thread.thread ∷ [] = search rules in
    let started = c.in_ok-thread.ensures.started in
    subst (λ ts. AreStarted (λ thread. thread.promise) c.args.shards.now c.args.turns (c.loop-worker.yielded ++ c.in-Some.worker ∷ []) ts) (sym pushed)
    (one_more_started (λ thread. thread.promise) c.args.shards.now c.args.turns c.loop-worker.yielded c.loop-worker.threads.items c.in-Some.worker c.in_ok-thread.thread c.loop-worker.invariant started.0 started.1 started.2)
