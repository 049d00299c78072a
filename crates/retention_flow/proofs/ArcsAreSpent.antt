-- What is used at each place, in terms of the arcs and of the links of requests.
use Rattle.std.proofs.Common.{◌≡◌, ℕ, ◌+◌, ◌&&◌, cond, List, [], ◌∷◌, ◌++◌, length, Option, Some, None, refl, ap, arith}
use Rattle.std.specs.Prelude.{nat_lt}
use Rattle.known_state.specs.Requests.{Asked}
use Rattle.known_state.specs.Plans.{Asking, at_start, after_request, link_of, links_from, is_inside, kept_over}
use Rattle.retention_flow.specs.declared.arcs.RequestArc.{RequestArc}
use Rattle.retention_flow.specs.Network.{IsArc, AreArcs, AreSpent, IsRoom, marks, link_at, links_of}

-- as many links of arcs are kept over a place as links of their requests
pub kept_as_arcs : (asking : Asking) (rs : List Asked) (arcs : List RequestArc) (place : ℕ) → AreArcs asking rs arcs → kept_over (links_from asking rs (marks arcs)) place ≡ kept_over (links_of asking.place arcs) place
kept_as_arcs asking [] [] place are = refl
kept_as_arcs asking [] (arc ∷ arcs) place are = absurd are
kept_as_arcs asking (r ∷ rs) [] place are = absurd are
kept_as_arcs asking (r ∷ rs) (arc ∷ arcs) place (one, are) = by (asking.last r.name) one (kept_as_arcs (after_request asking r) rs arcs place are)
  where
    by : (last : Option ℕ) → IsArc last asking.place r arc → kept_over (links_from (after_request asking r) rs (marks arcs)) place ≡ kept_over (links_of (asking.place + 1) arcs) place
        → kept_over (link_of last (asking.place + 1) r arc.kept ++ links_from (after_request asking r) rs (marks arcs)) place ≡ kept_over (link_at asking.place arc ∷ links_of (asking.place + 1) arcs) place
    by None one later =
        let none : ◌≡◌ {A = ℕ} (cond (arc.kept && is_inside place (link_at asking.place arc)) 1 0) 0 = ap (λ (a : RequestArc). cond (a.kept && is_inside place (link_at asking.place arc)) 1 0) one in
        omega (arith, later, none)
    by (Some from) (from_is, saving_is) later =
        let same : ◌≡◌ {A = ℕ} (cond (arc.kept && is_inside place (link_at asking.place arc)) 1 0) (cond (arc.kept && (nat_lt from place && nat_lt place (asking.place + 1))) 1 0) =
        ap (λ (n : ℕ). cond (arc.kept && (nat_lt n place && nat_lt place (asking.place + 1))) 1 0) from_is in
        omega (arith, later, same)

pub spent_by_arcs : (slots : ℕ) (held : List (List ℕ)) (rs : List Asked) (room : List ℕ) (arcs : List RequestArc) → AreArcs (at_start held) rs arcs → length arcs ≡ length rs → IsRoom slots room arcs → AreSpent slots room held rs arcs
spent_by_arcs slots held rs room arcs are many spent node below =
    omega (arith, spent.spent node (omega arith), kept_as_arcs (at_start held) rs arcs (node + 1) are)
