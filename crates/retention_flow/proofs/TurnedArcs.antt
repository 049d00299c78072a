-- Augmented arcs.
use Rattle.std.proofs.Common.{◌≡◌, ℕ, zero, suc, ◌+◌, ◌<◌, Bool, false, ◌&&◌, cond, ◌⊎◌, inl, inr, List, [], ◌∷◌, length, Option, Some, None, sym, ap, ◌∙◌, arith}
use Rattle.std.specs.Prelude.{slice_set}
use Rattle.std.proofs.lemmas.Bool.{cases_eq}
use Rattle.std.proofs.lemmas.List.{get_or-set_same, get_or-set_other}
use Rattle.known_state.specs.Requests.{Asked}
use Rattle.known_state.specs.Plans.{Asking, after_request, is_inside, kept_over}
use Rattle.retention_flow.specs.declared.arcs.RequestArc.{RequestArc}
use Rattle.retention_flow.specs.Network.{IsArc, AreArcs, link_at, links_of, arc_at, arc_kept}

-- one arc is marked as kept or not: only its own count over a place changes
pub over_set : (node : ℕ) (arcs : List RequestArc) (i place : ℕ) (kept : Bool) → i < length arcs
    → kept_over (links_of node (slice_set arcs i (arc_kept kept (arc_at arcs i)))) place + cond ((arc_at arcs i).kept && is_inside place (link_at (node + i) (arc_at arcs i))) 1 0
    ≡ kept_over (links_of node arcs) place + cond (kept && is_inside place (link_at (node + i) (arc_at arcs i))) 1 0
over_set node [] i place kept below = absurd (omega arith)
over_set node (arc ∷ arcs) zero place kept below =
    let same : node + 0 ≡ node = omega arith in
    let before : ◌≡◌ {A = ℕ} (cond (arc.kept && is_inside place (link_at (node + 0) arc)) 1 0) (cond (arc.kept && is_inside place (link_at node arc)) 1 0) = ap (λ (n : ℕ). cond (arc.kept && is_inside place (link_at n arc)) 1 0) same in
    let after : ◌≡◌ {A = ℕ} (cond (kept && is_inside place (link_at (node + 0) arc)) 1 0) (cond (kept && is_inside place (link_at node arc)) 1 0) = ap (λ (n : ℕ). cond (kept && is_inside place (link_at n arc)) 1 0) same in
    omega (arith, before, after)
over_set node (arc ∷ arcs) (suc i) place kept below =
    let next : node + 1 + i ≡ node + suc i = omega arith in
    let at = arc_at arcs i in
    let before : ◌≡◌ {A = ℕ} (cond (at.kept && is_inside place (link_at (node + 1 + i) at)) 1 0) (cond (at.kept && is_inside place (link_at (node + suc i) at)) 1 0) = ap (λ (n : ℕ). cond (at.kept && is_inside place (link_at n at)) 1 0) next in
    let after : ◌≡◌ {A = ℕ} (cond (kept && is_inside place (link_at (node + 1 + i) at)) 1 0) (cond (kept && is_inside place (link_at (node + suc i) at)) 1 0) = ap (λ (n : ℕ). cond (kept && is_inside place (link_at n at)) 1 0) next in
    omega (arith, before, after, over_set (node + 1) arcs i place kept (omega arith))

-- the arcs stay those of the requests, unless a loop comes to be kept
pub arcs_set : (asking : Asking) (rs : List Asked) (arcs : List RequestArc) (i : ℕ) (kept : Bool) → i < length arcs → (kept ≡ false) ⊎ ((arc_at arcs i).from ≡ asking.place + i → ⊥) → AreArcs asking rs arcs → AreArcs asking rs (slice_set arcs i (arc_kept kept (arc_at arcs i)))
arcs_set asking [] [] i kept below either are = absurd (omega arith)
arcs_set asking [] (arc ∷ arcs) i kept below either are = absurd are
arcs_set asking (r ∷ rs) [] i kept below either are = absurd are
arcs_set asking (r ∷ rs) (arc ∷ arcs) zero kept below either (one, are) = (by (asking.last r.name) one, are)
  where
    by : (last : Option ℕ) → IsArc last asking.place r arc → IsArc last asking.place r (arc_kept kept arc)
    by (Some from) one = one
    by None one = elim either [
      | inl none ↦ ap (λ (a : RequestArc). arc_kept kept a) one ∙ ap (λ (b : Bool). record { from = asking.place; saving = 0; kept = b }) none
      | inr other ↦ let start : arc.from ≡ asking.place = ap (λ (a : RequestArc). a.from) one in absurd (other (omega (arith, start)))
    ]
arcs_set asking (r ∷ rs) (arc ∷ arcs) (suc i) kept below either (one, are) = (one, arcs_set (after_request asking r) rs arcs i kept (omega arith) later are)
  where
    later : (kept ≡ false) ⊎ ((arc_at arcs i).from ≡ asking.place + 1 + i → ⊥)
    later = elim either [ inl none ↦ inl none | inr other ↦ inr (λ same. other (omega (arith, same))) ]

-- an arc whose mark isn't set is unchanged, and the one whose mark is set keeps its start and its saving
pub arc_other : (arcs : List RequestArc) (i j : ℕ) (arc : RequestArc) → (j ≡ i → ⊥) → arc_at (slice_set arcs i arc) j ≡ arc_at arcs j
arc_other arcs i j arc differs = get_or-set_other arcs i j arc (record { from = 0; saving = 0; kept = false }) differs

pub arc_set : (arcs : List RequestArc) (i : ℕ) (arc : RequestArc) → i < length arcs → arc_at (slice_set arcs i arc) i ≡ arc
arc_set arcs i arc below = get_or-set_same arcs i arc (record { from = 0; saving = 0; kept = false }) below

pub from_set : (arcs : List RequestArc) (i j : ℕ) (kept : Bool) → i < length arcs → (arc_at (slice_set arcs i (arc_kept kept (arc_at arcs i))) j).from ≡ (arc_at arcs j).from
from_set arcs i j kept below = elim (cases_eq j i) [
  | inl same ↦ ap (λ (n : ℕ). (arc_at (slice_set arcs i (arc_kept kept (arc_at arcs i))) n).from) same ∙ ap (λ (a : RequestArc). a.from) (arc_set arcs i (arc_kept kept (arc_at arcs i)) below) ∙ ap (λ (n : ℕ). (arc_at arcs n).from) (sym same)
  | inr differs ↦ ap (λ (a : RequestArc). a.from) (arc_other arcs i j (arc_kept kept (arc_at arcs i)) differs)
]
