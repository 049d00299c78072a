-- A plan is accepted once as many slots are spent as there are, less one.
use Rattle.std.proofs.Common.{◌≡◌, ℕ, ◌+◌, ◌-◌, ◌^◌, ◌<◌, ◌≤◌, List, length, replicate, slice_index, sym, ap, subst, arith}
use Rattle.known_state.specs.Requests.{Asked}
use Rattle.known_state.specs.Plans.{Plan, at_start, Accepts}
use Rattle.retention_flow.specs.declared.arcs.RequestArc.{RequestArc}
use Rattle.retention_flow.specs.Network.{AreArcs, SaveIfKept, IsCalm, IsRoom, arcs_from, plan_of}
use Rattle.retention_flow.proofs.CalmHeights.{calm_is_accepted, arcs-length}
use Rattle.retention_flow.proofs.HeightsAreBounded.{prices_bounded}
use Rattle.retention_flow.proofs.ArcsAreSpent.{spent_by_arcs}
use Rattle.retention_flow.proofs.ArcsGoBack.{arcs_from-length, unkept_none}
use Rattle.retention_flow.proofs.TheStartIsCalm.{start_calm}

pub spent_is_accepted : (slots : ℕ) (held : List (List ℕ)) (rs : List Asked) (hs room : List ℕ) (arcs : List RequestArc) (plan : Plan) → plan ≡ plan_of hs arcs
    → IsCalm hs room arcs → ((node : ℕ) → node < length hs → slice_index hs node ≤ 2 ^ 27) → IsRoom (slots - 1) room arcs → AreArcs (at_start held) rs arcs → Accepts slots held rs plan
spent_is_accepted slots held rs hs room arcs plan is calm small spent are =
    subst (Accepts slots held rs) (sym is)
    (calm_is_accepted slots held rs hs room arcs are calm (spent_by_arcs (slots - 1) held rs room arcs are (arcs-length (at_start held) rs arcs are) spent)
    (prices_bounded hs (λ i below. omega (arith, small i below))))

-- ---- the arcs of requests, as they were found

pub found_are : (held : List (List ℕ)) (rs : List Asked) (arcs : List RequestArc) → arcs ≡ arcs_from (at_start held) rs → AreArcs (at_start held) rs arcs
found_are held rs arcs is = subst (AreArcs (at_start held) rs) (sym is) (start_calm held rs (replicate 0 0)).0

pub found_calm : (held : List (List ℕ)) (rs : List Asked) (room : List ℕ) (arcs : List RequestArc) → arcs ≡ arcs_from (at_start held) rs → IsCalm (replicate (length arcs + 1) 0) room arcs
found_calm held rs room arcs is =
    let many : length rs ≡ length arcs = omega (arith, ap (λ (l : List RequestArc). length l) is, arcs_from-length (at_start held) rs) in
    subst (λ (n : ℕ). IsCalm (replicate (n + 1) 0) room arcs) many (subst (λ (l : List RequestArc). IsCalm (replicate (length rs + 1) 0) room l) (sym is) (start_calm held rs room).1)

pub found_few : (held : List (List ℕ)) (rs : List Asked) (arcs : List RequestArc) → arcs ≡ arcs_from (at_start held) rs → length rs ≤ 4096 → length arcs ≤ 4096
found_few held rs arcs is few = omega (arith, few, ap (λ (l : List RequestArc). length l) is, arcs_from-length (at_start held) rs)

pub found_save : (held : List (List ℕ)) (rs : List Asked) (arcs : List RequestArc) → arcs ≡ arcs_from (at_start held) rs → SaveIfKept arcs
found_save held rs arcs is = subst SaveIfKept (sym is) (unkept_none (at_start held) rs)

pub room_here : (slots : ℕ) (room found : List ℕ) (arcs known : List RequestArc) → room ≡ found → arcs ≡ known → IsRoom slots found known → IsRoom slots room arcs
room_here slots room found arcs known room_is arcs_is spent =
    subst (λ (l : List ℕ). IsRoom slots l arcs) (sym room_is) (subst (λ (l : List RequestArc). IsRoom slots found l) (sym arcs_is) spent)
