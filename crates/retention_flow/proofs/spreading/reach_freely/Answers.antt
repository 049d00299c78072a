use Rattle.std.proofs.Common.{◌≡◌, ℕ, List, length, Option, Some, sym, subst, arith}
use Rattle.std.specs.Prelude.{slice_set, IfSome}
use Rattle.retention_flow.specs.declared.steps.Leaving.{Leaving}
use Rattle.retention_flow.specs.declared.steps.Step.{Step}
use Rattle.retention_flow.specs.Network.{Leaves, IsSpread}
use Rattle.retention_flow.proofs.SpreadGoesOn.{one_reached}
use Rattle.retention_flow.proofs.spreading.reach_freely.Goals as goal

pub returns-clause-spread : goal.returns-clause-spread
returns-clause-spread c = λ heights room arcs source back long leaves spread.
    let leaving = c.in-Some.leaving in
    let steps = c.args.steps.now in
    let order = c.args.order.now.items in
    let arc : Leaves heights room arcs steps leaving = subst (λ (o : Option Leaving). IfSome o (Leaves heights room arcs steps)) c.in-Some.is leaves in
    let none : leaving.slack ≡ 0 = omega (arith, c.if-leaving-gt0.false) in
    subst (λ (l : List (Option Step)). IsSpread heights room arcs l source c.reach.new.order.items) (sym c.in_ok-reach.ensures.steps)
    (subst (λ (l : List ℕ). IsSpread heights room arcs (slice_set steps leaving.node (Some (record { rank = length order; arc = leaving.arc }))) source l) (sym c.in_ok-reach.ensures.order) (one_reached heights room arcs steps source order leaving back long none arc spread))
