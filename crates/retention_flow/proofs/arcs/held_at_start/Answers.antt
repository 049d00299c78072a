use Rattle.retention_flow.proofs.PlacesInATree.{held_more}
use Rattle.retention_flow.proofs.arcs.held_at_start.Goals as goal

pub loop-name-preserved : goal.loop-name-preserved
loop-name-preserved c =
    held_more c.args.held.now c.loop-name.name-index c.name-item.result c.as_slice.result.now c.loop-name.last c.insert.new.self c.loop-name-test.true c.name-item.is c.as_slice.ensures.bytes c.in_ok-insert.ensures.updates c.loop-name.invariant
