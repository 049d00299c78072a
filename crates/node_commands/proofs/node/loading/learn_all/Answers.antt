use Rattle.node_commands.specs.Loading.{learn_of}
use Rattle.node_commands.proofs.LoadingLaws.{next_gained, none_gained}
use Rattle.node_commands.proofs.node.loading.learn_all.Goals as goal

pub loop-update-preserved : goal.loop-update-preserved
loop-update-preserved g c = λ e rest.
    c.loop-update.invariant e
    (next_gained (learn_of c.args.table) c.args.updates.now c.loop-update.update-index c.update-item.result c.loop-update.seat c.learn_own.new.seat e
    c.loop-update-test.true c.update-item.is c.in_ok-learn_own.ensures.learned rest)

pub returns-clause-learned : goal.returns-clause-learned
returns-clause-learned g c =
    c.loop-update.invariant c.loop-update.seat
    (none_gained (learn_of c.args.table) c.args.updates.now c.loop-update.update-index c.loop-update.seat c.loop-update-test.false)
