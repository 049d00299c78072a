use Rattle.node_commands.proofs.EndingLaws.{then_ok}
use Rattle.node_commands.proofs.SharingLaws.{all_kept}
use Rattle.node_commands.proofs.node.sharing.serve_in.Goals as goal

pub returns-clause-served : goal.returns-clause-served
returns-clause-served g c =
    then_ok _ _ c.join_all.result
    (λ all kept. all_kept (λ thread. thread.promise) c.args.shards.now c.args.turns c.args.workers.items c.in_ok-threads.threads.items all.items c.in_ok-threads.ensures.started kept)
    c.join_all.ensures.kept
