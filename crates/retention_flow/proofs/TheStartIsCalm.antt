-- At the start all links are kept, and all heights are 0.
use Rattle.std.proofs.Common.{◌≡◌, ℕ, zero, suc, ◌+◌, List, [], ◌∷◌, length, replicate, slice_index, Option, Some, None, refl, arith}
use Rattle.std.proofs.lemmas.List.{length-replicate}
use Rattle.known_state.specs.Requests.{Asked}
use Rattle.known_state.specs.Plans.{Asking, at_start, after_request}
use Rattle.retention_flow.specs.Network.{arc_of, arcs_from, IsArc, AreArcs, IsCalmArc, AreCalmArcs, IsCalm}

pub zero_at : (n i : ℕ) → ◌≡◌ {A = ℕ} (slice_index (replicate n 0) i) 0
zero_at zero i = refl
zero_at (suc n) zero = refl
zero_at (suc n) (suc i) = zero_at n i

first_arcs : (asking : Asking) (rs : List Asked) → AreArcs asking rs (arcs_from asking rs)
first_arcs asking [] = tt
first_arcs asking (r ∷ rs) = (one (asking.last r.name), first_arcs (after_request asking r) rs)
  where
    one : (last : Option ℕ) → IsArc last asking.place r (arc_of last asking.place r)
    one None = refl
    one (Some from) = (refl, refl)

first_arcs-length : (asking : Asking) (rs : List Asked) → length (arcs_from asking rs) ≡ length rs
first_arcs-length asking [] = refl
first_arcs-length asking (r ∷ rs) = omega (arith, first_arcs-length (after_request asking r) rs)

first_calm : (n node : ℕ) (asking : Asking) (rs : List Asked) → AreCalmArcs (replicate n 0) node (arcs_from asking rs)
first_calm n node asking [] = tt
first_calm n node asking (r ∷ rs) = (one (asking.last r.name), first_calm n (node + 1) (after_request asking r) rs)
  where
    one : (last : Option ℕ) → IsCalmArc (replicate n 0) node (arc_of last asking.place r)
    one None = omega (arith, zero_at n node, zero_at n asking.place)
    one (Some from) = omega (arith, zero_at n node, zero_at n from)

pub start_calm : (held : List (List ℕ)) (rs : List Asked) (room : List ℕ) → AreArcs (at_start held) rs (arcs_from (at_start held) rs) × IsCalm (replicate (length rs + 1) 0) room (arcs_from (at_start held) rs)
start_calm held rs room = (
  first_arcs (at_start held) rs,
  record {
    count = omega (arith, length-replicate {A = ℕ} (length rs + 1) 0, first_arcs-length (at_start held) rs);
    rises = λ node below. omega (arith, zero_at (length rs + 1) node, zero_at (length rs + 1) (node + 1));
    full = λ node below some. omega (arith, zero_at (length rs + 1) node, zero_at (length rs + 1) (node + 1));
    calm = first_calm (length rs + 1) 0 (at_start held) rs;
  },
)
