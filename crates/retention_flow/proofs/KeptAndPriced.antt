-- What is kept, and the prices of heights, one after another.
use Rattle.std.proofs.Common.{◌≡◌, ℕ, zero, suc, ◌+◌, ◌-◌, ◌<◌, ◌≤◌, false, List, [], ◌∷◌, length, drop, slice_index, refl, sym, ap, ◌∙◌, arith}
use Rattle.std.proofs.lemmas.List.{drop_more}
use Rattle.retention_flow.specs.declared.arcs.RequestArc.{RequestArc}
use Rattle.retention_flow.specs.Network.{arc_at, marks, prices_of}

pub marks_more : (arcs : List RequestArc) (i : ℕ) → i < length arcs → marks (drop i arcs) ≡ (arc_at arcs i).kept ∷ marks (drop (i + 1) arcs)
marks_more arcs i below = ap marks (drop_more arcs i (record { from = 0; saving = 0; kept = false }) below)

pub marks_end : (arcs : List RequestArc) (i : ℕ) → length arcs ≤ i → marks (drop i arcs) ≡ []
marks_end [] zero beyond = refl
marks_end [] (suc i) beyond = refl
marks_end (arc ∷ arcs) zero beyond = absurd (omega arith)
marks_end (arc ∷ arcs) (suc i) beyond = marks_end arcs i (omega arith)

pub prices_more : (hs : List ℕ) (i : ℕ) → i < length hs - 1 → prices_of (drop i hs) ≡ (slice_index hs (i + 1) - slice_index hs i) ∷ prices_of (drop (i + 1) hs)
prices_more hs i below =
    let next : drop (i + 1) hs ≡ slice_index hs (i + 1) ∷ drop (i + 1 + 1) hs = drop_more hs (i + 1) 0 (omega arith) in
    ap prices_of (drop_more hs i 0 (omega arith))
    ∙ ap (λ (l : List ℕ). prices_of (slice_index hs i ∷ l)) next
    ∙ ap (λ (l : List ℕ). (slice_index hs (i + 1) - slice_index hs i) ∷ prices_of l) (sym next)

pub prices_end : (hs : List ℕ) (i : ℕ) → length hs - 1 ≤ i → prices_of (drop i hs) ≡ []
prices_end [] zero beyond = refl
prices_end [] (suc i) beyond = refl
prices_end (h ∷ []) zero beyond = refl
prices_end (h ∷ (k ∷ hs)) zero beyond = absurd (omega arith)
prices_end (h ∷ hs) (suc i) beyond = prices_end hs i (omega arith)
