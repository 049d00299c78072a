use Rattle.std.proofs.Common.{rules, ◌≡◌, List, [], ◌∷◌, ◌++◌, subst, sym}
use Rattle.node_commands.specs.Sharing.{AreKept}
use Rattle.node_commands.specs.declared.node.sharing.Served.{Served}
use Rattle.node_commands.proofs.SharingLaws.{one_more_kept}
use Rattle.node_commands.proofs.node.sharing.join_all.Goals as goal

pub loop-thread-preserved : goal.loop-thread-preserved
loop-thread-preserved g c =
    let pushed : c.push.new.self.items ≡ c.loop-thread.all.items ++ c.join.result ∷ [] = search rules in
    subst (λ (ss : List Served). AreKept (λ thread. thread.promise) (c.loop-thread.yielded ++ c.in-Some.thread ∷ []) ss) (sym pushed)
    (one_more_kept (λ thread. thread.promise) c.loop-thread.yielded c.loop-thread.all.items c.in-Some.thread c.join.result c.loop-thread.invariant c.join.ensures)
