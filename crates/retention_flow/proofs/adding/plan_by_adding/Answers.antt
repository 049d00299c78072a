use Rattle.std.proofs.Common.{rules, ◌≡◌, ℕ, ◌+◌, List, length, drop, replicate, ap, ◌∙◌, arith}
use Rattle.std.proofs.lemmas.Result.{IfOk-weaker}
use Rattle.known_state.specs.Requests.{Asked}
use Rattle.known_state.specs.Plans.{at_start, Accepts}
use Rattle.retention_flow.specs.Network.{AreArcs, plan_of}
use Rattle.retention_flow.proofs.PlanIsAccepted.{spent_is_accepted}
use Rattle.retention_flow.proofs.SpreadGoesOn.{written}
use Rattle.retention_flow.proofs.SlotsAreAdded.{steep_start}
use Rattle.retention_flow.proofs.adding.plan_by_adding.Goals as goal

pub add_slots-requires-clause-calm : goal.add_slots-requires-clause-calm
add_slots-requires-clause-calm c =
    let loops = c.keep_loops.ensures in
    let none : c.in_ok-room.room.items ≡ replicate (length c.keep_loops.new.arcs) 0 = search rules in
    (steep_start c.in_ok-heights.heights.items c.deref_mut.result.now c.deref_mut-2.result.now c.keep_loops.new.arcs (length c.keep_loops.new.arcs + 1) loops.back loops.little loops.loops (omega arith) c.deref_mut.ensures.value c.in_ok-heights.ensures.long c.in_ok-heights.ensures.steep (c.deref_mut-2.ensures.value ∙ none)).0

pub add_slots-requires-clause-room : goal.add_slots-requires-clause-room
add_slots-requires-clause-room c =
    let loops = c.keep_loops.ensures in
    let none : c.in_ok-room.room.items ≡ replicate (length c.keep_loops.new.arcs) 0 = search rules in
    (steep_start c.in_ok-heights.heights.items c.deref_mut.result.now c.deref_mut-2.result.now c.keep_loops.new.arcs (length c.keep_loops.new.arcs + 1) loops.back loops.little loops.loops (omega arith) c.deref_mut.ensures.value c.in_ok-heights.ensures.long c.in_ok-heights.ensures.steep (c.deref_mut-2.ensures.value ∙ none)).1

pub returns : goal.returns
returns c =
    let given = c.in_ok-add_slots.ensures in
    let heights : c.deref.result.now ≡ c.add_slots.new.heights =
    c.deref.ensures.value ∙ written c.add_slots.new.heights (drop (length c.add_slots.new.heights) c.in_ok-heights.heights.items) c.in_ok-heights.heights.len (omega (arith, c.in_ok-heights.heights.ok.0, ap (λ (l : List ℕ). length l) c.deref_mut.ensures.value, c.add_slots.auto.heights)) in
    IfOk-weaker c.plan_of.result (λ plan. plan ≡ plan_of c.deref.result.now c.add_slots.new.arcs)
    (λ plan. (held : List (List ℕ)) → (rs : List Asked) → AreArcs (at_start held) rs c.args.arcs.now → Accepts c.args.slots held rs plan) (λ plan is held rs are.
    spent_is_accepted c.args.slots held rs c.add_slots.new.heights given.calm.0 c.add_slots.new.arcs plan (is ∙ ap (λ (l : List ℕ). plan_of l c.add_slots.new.arcs) heights) given.calm.1 given.small given.calm.2
    (given.arcs held rs (c.keep_loops.ensures.arcs held rs are))) c.plan_of.ensures
