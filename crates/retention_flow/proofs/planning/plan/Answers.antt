use Rattle.std.proofs.Common.{◌∙◌}
use Rattle.retention_flow.proofs.PlanIsAccepted.{found_are, found_calm, found_few, found_save, room_here}
use Rattle.retention_flow.proofs.planning.plan.Goals as goal

pub plan_by_taking-requires-clause-most : goal.plan_by_taking-requires-clause-most
plan_by_taking-requires-clause-most c = found_few c.args.held.now c.args.requests.now c.deref_mut-then-most_over-slots.result.now (c.deref_mut-then-most_over-slots.ensures.value ∙ c.in_ok-arcs.ensures.arcs) c.requires.requests

pub plan_by_taking-requires-clause-calm : goal.plan_by_taking-requires-clause-calm
plan_by_taking-requires-clause-calm c = found_calm c.args.held.now c.args.requests.now c.deref_mut.result.now c.deref_mut-then-most_over-slots.result.now (c.deref_mut-then-most_over-slots.ensures.value ∙ c.in_ok-arcs.ensures.arcs)

pub plan_by_taking-requires-clause-room : goal.plan_by_taking-requires-clause-room
plan_by_taking-requires-clause-room c =
    room_here _ c.deref_mut.result.now _ c.deref_mut-then-most_over-slots.result.now _ c.deref_mut.ensures.value c.deref_mut-then-most_over-slots.ensures.value c.in_ok-arcs.ensures.room.0

pub returns-then-most_over-slots : goal.returns-then-most_over-slots
returns-then-most_over-slots c = record { accepted = c.in_ok-plan_by_taking.ensures c.args.held.now c.args.requests.now (found_are c.args.held.now c.args.requests.now c.deref_mut-then-most_over-slots.result.now (c.deref_mut-then-most_over-slots.ensures.value ∙ c.in_ok-arcs.ensures.arcs)) }

pub plan_by_adding-requires-clause-most : goal.plan_by_adding-requires-clause-most
plan_by_adding-requires-clause-most c = found_few c.args.held.now c.args.requests.now c.deref_mut-2.result.now (c.deref_mut-2.ensures.value ∙ c.in_ok-arcs.ensures.arcs) c.requires.requests

pub plan_by_adding-requires-clause-saves : goal.plan_by_adding-requires-clause-saves
plan_by_adding-requires-clause-saves c = found_save c.args.held.now c.args.requests.now c.deref_mut-2.result.now (c.deref_mut-2.ensures.value ∙ c.in_ok-arcs.ensures.arcs)

pub returns : goal.returns
returns c = record { accepted = c.in_ok-plan_by_adding.ensures c.args.held.now c.args.requests.now (found_are c.args.held.now c.args.requests.now c.deref_mut-2.result.now (c.deref_mut-2.ensures.value ∙ c.in_ok-arcs.ensures.arcs)) }
