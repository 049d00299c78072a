use Rattle.std.proofs.Common.{◌∙◌}
use Rattle.retention_flow.proofs.PlanIsAccepted.{found_few}
use Rattle.retention_flow.proofs.planning.keep_all.Goals as goal

pub find_room-requires-clause-most : goal.find_room-requires-clause-most
find_room-requires-clause-most c = found_few c.args.held.now c.args.requests.now c.deref.result.now (c.deref.ensures.value ∙ c.in_ok-arcs.ensures.arcs) c.requires.requests
