use Rattle.std.proofs.Common.{◌≡◌, ℕ, ◌+◌, ◌-◌, List, length, drop, ap, ◌∙◌, subst, arith}
use Rattle.std.proofs.lemmas.Result.{IfOk-weaker}
use Rattle.known_state.specs.Requests.{Asked}
use Rattle.known_state.specs.Plans.{at_start, Accepts}
use Rattle.retention_flow.specs.Network.{AreArcs, IsRoom, plan_of}
use Rattle.retention_flow.proofs.PlanIsAccepted.{spent_is_accepted}
use Rattle.retention_flow.proofs.SpreadGoesOn.{written}
use Rattle.retention_flow.proofs.taking.plan_by_taking.Goals as goal

pub returns : goal.returns
returns c =
    let done = c.in_ok-take_away.ensures in
    let heights : c.deref.result.now ≡ c.take_away.new.heights =
    c.deref.ensures.value ∙ written c.take_away.new.heights (drop (length c.take_away.new.heights) c.in_ok-heights.heights.items) c.in_ok-heights.heights.len (omega (arith, c.in_ok-heights.heights.ok.0, ap (λ (l : List ℕ). length l) c.deref_mut.ensures.value, c.take_away.auto.heights)) in
    let left : c.args.most_over - (c.args.most_over + 1 - c.args.slots) ≡ c.args.slots - 1 = omega (arith, c.requires.slots) in
    IfOk-weaker c.plan_of.result (λ plan. plan ≡ plan_of c.deref.result.now c.take_away.new.arcs)
    (λ plan. (held : List (List ℕ)) → (rs : List Asked) → AreArcs (at_start held) rs c.args.arcs.now → Accepts c.args.slots held rs plan) (λ plan is held rs are.
    spent_is_accepted c.args.slots held rs c.take_away.new.heights c.take_away.new.room c.take_away.new.arcs plan (is ∙ ap (λ (l : List ℕ). plan_of l c.take_away.new.arcs) heights) done.calm done.small
    (subst (λ (n : ℕ). IsRoom n c.take_away.new.room c.take_away.new.arcs) left (done.room c.args.most_over c.requires.room)) (done.arcs held rs are)) c.plan_of.ensures
