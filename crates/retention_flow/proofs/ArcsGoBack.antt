-- The arcs of requests begin at or before them, and have small savings.
use Rattle.std.proofs.Common.{◌≡◌, ℕ, zero, suc, ◌+◌, ◌<◌, ◌≤◌, false, List, [], ◌∷◌, ◌++◌, length, drop, Option, Some, None, refl, arith}
use Rattle.known_state.specs.Requests.{Asked}
use Rattle.known_state.specs.Plans.{Asking, at_start, after_request}
use Rattle.retention_flow.specs.declared.arcs.RequestArc.{RequestArc}
use Rattle.retention_flow.specs.Network.{arc_of, arcs_from, arc_at, GoBack, SaveLittle, SaveIfKept}
use Rattle.retention_flow.proofs.CalmHeights.{AreSoFar, start_so_far, more_so_far}

back_from : (asking : Asking) (rs : List Asked) (node : ℕ) → AreSoFar asking → node < length (arcs_from asking rs) → (arc_at (arcs_from asking rs) node).from ≤ asking.place + node
back_from asking [] node so_far below = absurd (omega arith)
back_from asking (r ∷ rs) zero so_far below = by (asking.last r.name) refl
  where
    by : (last : Option ℕ) → asking.last r.name ≡ last → (arc_of last asking.place r).from ≤ asking.place + 0
    by None is = omega arith
    by (Some from) is = omega (arith, so_far r.name from is)
back_from asking (r ∷ rs) (suc node) so_far below = omega (arith, back_from (after_request asking r) rs node (more_so_far asking r so_far) (omega arith))

pub start_back : (held : List (List ℕ)) (rs : List Asked) → GoBack (arcs_from (at_start held) rs)
start_back held rs = λ node below. omega (arith, back_from (at_start held) rs node (start_so_far held) below)

pub arcs_from-length : (asking : Asking) (rs : List Asked) → length (arcs_from asking rs) ≡ length rs
arcs_from-length asking [] = refl
arcs_from-length asking (r ∷ rs) = omega (arith, arcs_from-length (after_request asking r) rs)

-- an arc without a link saves nothing
pub unkept_none : (asking : Asking) (rs : List Asked) → SaveIfKept (arcs_from asking rs)
unkept_none asking [] node below none = absurd (omega arith)
unkept_none asking (r ∷ rs) zero below none = first (asking.last r.name) none
  where
    first : (last : Option ℕ) → (arc_of last asking.place r).kept ≡ false → (arc_of last asking.place r).saving ≡ 0
    first None none = refl
    first (Some from) none = absurd (cc)
unkept_none asking (r ∷ rs) (suc node) below none = unkept_none (after_request asking r) rs node (omega arith) none

-- one more arc with a small saving
pub little_more : (arcs : List RequestArc) (arc : RequestArc) → arc.saving ≤ 32768 → SaveLittle arcs → SaveLittle (arcs ++ arc ∷ [])
little_more [] arc few little = λ node below. by node below
  where
    by : (node : ℕ) → node < 1 → (arc_at (arc ∷ []) node).saving ≤ 32768
    by zero below = few
    by (suc node) below = absurd (omega arith)
little_more (first ∷ arcs) arc few little = λ node below. by (little_more arcs arc few (λ other within. little (suc other) (omega arith))) node below
  where
    by : SaveLittle (arcs ++ arc ∷ []) → (node : ℕ) → node < length (first ∷ arcs ++ arc ∷ []) → (arc_at (first ∷ arcs ++ arc ∷ []) node).saving ≤ 32768
    by rest zero below = little 0 (omega arith)
    by rest (suc node) below = rest node (omega arith)

-- after the last request there is no arc
pub arcs_end : (asking : Asking) (rs : List Asked) (i : ℕ) → length rs ≤ i → arcs_from asking (drop i rs) ≡ []
arcs_end asking [] zero beyond = refl
arcs_end asking [] (suc i) beyond = refl
arcs_end asking (r ∷ rs) zero beyond = absurd (omega arith)
arcs_end asking (r ∷ rs) (suc i) beyond = arcs_end asking rs i (omega arith)
