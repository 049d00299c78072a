-- Residual arcs to other nodes stay residual when the arc by which one node is reached is augmented.
use Rattle.std.proofs.Common.{◌≡◌, ℕ, ◌+◌, ◌-◌, ◌<◌, Bool, true, false, inl, inr, List, length, slice_index, refl, sym, ap, ◌∙◌, subst, arith}
use Rattle.std.specs.Prelude.{slice_set}
use Rattle.std.proofs.lemmas.Bool.{cases_eq}
use Rattle.retention_flow.specs.declared.arcs.RequestArc.{RequestArc}
use Rattle.retention_flow.specs.declared.steps.ResidualArc.{ResidualArc}
use Rattle.retention_flow.specs.declared.steps.ResidualArc.TheVariants as residuals
use Rattle.retention_flow.specs.Network.{arc_at, arc_kept, IsResidual, augmented_room, augmented_arcs}
use Rattle.retention_flow.proofs.TurnedArcs.{arc_other, arc_set}
use Rattle.retention_flow.proofs.TurnedResiduals.{set_at, set-length}

-- if the room at a place stays or grows, a free slot there stays free
still_left : (room new : List ℕ) (arcs : List RequestArc) (hs : List ℕ) (residual : ResidualArc) (node : ℕ) → (0 < slice_index room node → 0 < slice_index new node) → IsResidual hs room arcs residual node 0 → IsResidual hs new arcs residual node 0
still_left room new arcs hs residuals.Start node left residual = residual
still_left room new arcs hs residuals.Right node left residual = residual
still_left room new arcs hs residuals.Left node left (below, some, tight) = (below, left some, tight)
still_left room new arcs hs (residuals.Back later) node left residual = residual
still_left room new arcs hs residuals.On node left residual = residual

-- a residual arc stays residual when a mark is set, unless the mark is its own and changes
still_kept : (hs room : List ℕ) (arcs : List RequestArc) (i : ℕ) (kept : Bool) (residual : ResidualArc) (node : ℕ) → i < length arcs → (residual ≡ residuals.Back i → kept ≡ true) → (residual ≡ residuals.On → node ≡ i → kept ≡ false)
    → IsResidual hs room arcs residual node 0 → IsResidual hs room (slice_set arcs i (arc_kept kept (arc_at arcs i))) residual node 0
still_kept hs room arcs i kept residuals.Start node below back on residual = omega (arith, residual, set-length arcs i (arc_kept kept (arc_at arcs i)))
still_kept hs room arcs i kept residuals.Right node below back on (some, most, tight) = (some, omega (arith, set-length arcs i (arc_kept kept (arc_at arcs i))), tight)
still_kept hs room arcs i kept residuals.Left node below back on (within, some, tight) = (omega (arith, set-length arcs i (arc_kept kept (arc_at arcs i))), some, tight)
still_kept hs room arcs i kept (residuals.Back later) node below back on (within, is, from, tight) = elim (cases_eq later i) [
  | inl same ↦
      let set : RequestArc = arc_kept kept (arc_at arcs i) in
      let at : arc_at (slice_set arcs i set) later ≡ arc_kept kept (arc_at arcs later) = ap (λ (n : ℕ). arc_at (slice_set arcs i set) n) same ∙ arc_set arcs i set below ∙ ap (λ (n : ℕ). arc_kept kept (arc_at arcs n)) (sym same) in
      subst (λ (a : RequestArc). (later < length (slice_set arcs i set)) × (a.kept ≡ true) × (a.from ≡ node) × (slice_index hs later + 0 ≡ slice_index hs node + a.saving)) (sym at)
      (omega (arith, set-length arcs i set), back (ap (λ (n : ℕ). residuals.Back n) same), from, tight)
  | inr differs ↦
      let set : RequestArc = arc_kept kept (arc_at arcs i) in
      subst (λ (a : RequestArc). (later < length (slice_set arcs i set)) × (a.kept ≡ true) × (a.from ≡ node) × (slice_index hs later + 0 ≡ slice_index hs node + a.saving)) (sym (arc_other arcs i later set differs))
      (omega (arith, set-length arcs i set), is, from, tight)
]
still_kept hs room arcs i kept residuals.On node below back on (within, is, tight) = elim (cases_eq node i) [
  | inl same ↦
      let set : RequestArc = arc_kept kept (arc_at arcs i) in
      let at : arc_at (slice_set arcs i set) node ≡ arc_kept kept (arc_at arcs node) = ap (λ (n : ℕ). arc_at (slice_set arcs i set) n) same ∙ arc_set arcs i set below ∙ ap (λ (n : ℕ). arc_kept kept (arc_at arcs n)) (sym same) in
      subst (λ (a : RequestArc). (node < length (slice_set arcs i set)) × (a.kept ≡ false) × (slice_index hs a.from + a.saving + 0 ≡ slice_index hs node)) (sym at)
      (omega (arith, set-length arcs i set), on refl same, tight)
  | inr differs ↦
      let set : RequestArc = arc_kept kept (arc_at arcs i) in
      subst (λ (a : RequestArc). (node < length (slice_set arcs i set)) × (a.kept ≡ false) × (slice_index hs a.from + a.saving + 0 ≡ slice_index hs node)) (sym (arc_other arcs i node set differs))
      (omega (arith, set-length arcs i set), is, tight)
]

-- the residual arcs to other nodes stay residual
pub residual_stays : (hs room : List ℕ) (arcs : List RequestArc) (turned residual : ResidualArc) (node other : ℕ) → length room ≡ length arcs → (other ≡ node → ⊥) → IsResidual hs room arcs turned node 0 → IsResidual hs room arcs residual other 0
    → IsResidual hs (augmented_room turned node room) (augmented_arcs turned node arcs) residual other 0
residual_stays hs room arcs residuals.Start residual node other long differs turned open_arc = open_arc
residual_stays hs room arcs residuals.Right residual node other long differs (some, most, tight) open_arc =
    still_left room (slice_set room (node - 1) (slice_index room (node - 1) + 1)) arcs hs residual other (λ left. elim (set_at room (node - 1) other (slice_index room (node - 1) + 1) (omega arith)) [
      | inl same ↦ omega (arith, same)
      | inr (same, is) ↦ omega (arith, is)
    ]) open_arc
residual_stays hs room arcs residuals.Left residual node other long differs (below, some, tight) open_arc =
    still_left room (slice_set room node (slice_index room node - 1)) arcs hs residual other (λ left. elim (set_at room node other (slice_index room node - 1) (omega arith)) [
      | inl same ↦ omega (arith, same)
      | inr (same, is) ↦ absurd (differs same)
    ]) open_arc
residual_stays hs room arcs (residuals.Back later) residual node other long differs (below, kept, from, tight) open_arc =
    still_kept hs room arcs later false residual other below (λ same.
    let there : IsResidual hs room arcs (residuals.Back later) other 0 = subst (λ (w : ResidualArc). IsResidual hs room arcs w other 0) same open_arc in
    absurd (differs (sym there.2 ∙ from))) (λ is same. refl) open_arc
residual_stays hs room arcs residuals.On residual node other long differs (below, kept, tight) open_arc =
    still_kept hs room arcs node true residual other below (λ same. refl) (λ is same. absurd (differs same)) open_arc
