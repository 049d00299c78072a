use Rattle.node_commands.specs.Loading.{load_of}
use Rattle.node_commands.proofs.LoadingLaws.{next_gained, none_gained}
use Rattle.node_commands.proofs.node.loading.load.Goals as goal

pub loop-definition-preserved : goal.loop-definition-preserved
loop-definition-preserved g c = λ e rest.
    c.loop-definition.invariant e
    (next_gained (load_of c.args.sessions c.args.updates.now) c.args.definitions.now c.loop-definition.definition-index c.definition-item.result c.loop-definition.seat c.load_table.new.seat e
    c.loop-definition-test.true c.definition-item.is c.in_ok-load_table.ensures.loaded rest)

pub returns-clause-loaded : goal.returns-clause-loaded
returns-clause-loaded g c =
    c.loop-definition.invariant c.loop-definition.seat
    (none_gained (load_of c.args.sessions c.args.updates.now) c.args.definitions.now c.loop-definition.definition-index c.loop-definition.seat c.loop-definition-test.false)
