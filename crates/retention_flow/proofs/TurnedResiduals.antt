-- What augmenting the arc by which a node is reached leaves unchanged.
use Rattle.std.proofs.Common.{◌≡◌, ℕ, zero, suc, ◌+◌, ◌-◌, ◌<◌, ◌≤◌, Bool, true, false, ◌⊎◌, inl, inr, List, [], ◌∷◌, length, slice_index, refl, sym, ap, ◌∙◌, subst, arith}
use Rattle.std.specs.Prelude.{slice_set}
use Rattle.std.proofs.lemmas.Bool.{cases_eq}
use Rattle.std.proofs.lemmas.List.{get_or-set_same, get_or-set_other}
use Rattle.retention_flow.specs.declared.arcs.RequestArc.{RequestArc}
use Rattle.retention_flow.specs.declared.steps.ResidualArc.{ResidualArc}
use Rattle.retention_flow.specs.declared.steps.ResidualArc.TheVariants as residuals
use Rattle.retention_flow.specs.Network.{IsCalmRise, IsCalmArc, IsCalm, arc_at, arc_kept, IsResidual, augmented_room, augmented_arcs}
use Rattle.retention_flow.proofs.RaisedIsCalm.{calm_at, calm_all}
use Rattle.retention_flow.proofs.TurnedArcs.{arc_other, arc_set}

pub set-length : {A : Type 0} (l : List A) (i : ℕ) (a : A) → length (slice_set l i a) ≡ length l
set-length [] i a = refl
set-length (x ∷ xs) zero a = refl
set-length (x ∷ xs) (suc i) a = omega (arith, set-length xs i a)

pub augmented_room-length : (residual : ResidualArc) (node : ℕ) (room : List ℕ) → length (augmented_room residual node room) ≡ length room
augmented_room-length residuals.Start node room = refl
augmented_room-length residuals.Right node room = set-length room (node - 1) (slice_index room (node - 1) + 1)
augmented_room-length residuals.Left node room = set-length room node (slice_index room node - 1)
augmented_room-length (residuals.Back later) node room = refl
augmented_room-length residuals.On node room = refl

pub augmented_arcs-length : (residual : ResidualArc) (node : ℕ) (arcs : List RequestArc) → length (augmented_arcs residual node arcs) ≡ length arcs
augmented_arcs-length residuals.Start node arcs = refl
augmented_arcs-length residuals.Right node arcs = refl
augmented_arcs-length residuals.Left node arcs = refl
augmented_arcs-length (residuals.Back later) node arcs = set-length arcs later (arc_kept false (arc_at arcs later))
augmented_arcs-length residuals.On node arcs = set-length arcs node (arc_kept true (arc_at arcs node))

pub set_at : (l : List ℕ) (i j n : ℕ) → i < length l → slice_index (slice_set l i n) j ≡ slice_index l j ⊎ (j ≡ i) × (slice_index (slice_set l i n) j ≡ n)
set_at l i j n below = elim (cases_eq j i) [
  | inl same ↦ inr (same, ap (λ (k : ℕ). slice_index (slice_set l i n) k) same ∙ get_or-set_same l i n 0 below)
  | inr differs ↦ inl (get_or-set_other l i j n 0 differs)
]

-- ---- calm

-- an arc of slack 0 is calm whether it is kept or not
set_calm : (hs : List ℕ) (arcs : List RequestArc) (i : ℕ) (kept : Bool) → i < length arcs → slice_index hs i ≡ slice_index hs (arc_at arcs i).from + (arc_at arcs i).saving
    → ((j : ℕ) → j < length arcs → IsCalmArc hs j (arc_at arcs j)) → (j : ℕ) → j < length arcs → IsCalmArc hs j (arc_at (slice_set arcs i (arc_kept kept (arc_at arcs i))) j)
set_calm hs arcs i kept below tight calm j within = elim (cases_eq j i) [
  | inl same ↦ subst (λ (n : ℕ). IsCalmArc hs n (arc_at (slice_set arcs i (arc_kept kept (arc_at arcs i))) n)) (sym same)
      (subst (λ (a : RequestArc). IsCalmArc hs i a) (sym (arc_set arcs i (arc_kept kept (arc_at arcs i)) below)) (by kept))
  | inr differs ↦ subst (λ (a : RequestArc). IsCalmArc hs j a) (sym (arc_other arcs i j (arc_kept kept (arc_at arcs i)) differs)) (calm j within)
]
  where
    by : (kept : Bool) → IsCalmRise kept (arc_at arcs i).saving (slice_index hs (arc_at arcs i).from) (slice_index hs i)
    by true = omega (arith, tight)
    by false = omega (arith, tight)

pub arcs_calm : (hs room : List ℕ) (arcs : List RequestArc) → IsCalm hs room arcs → (j : ℕ) → j < length arcs → IsCalmArc hs j (arc_at arcs j)
arcs_calm hs room arcs calm j below = let same : 0 + j ≡ j = omega arith in subst (λ (n : ℕ). IsCalmArc hs n (arc_at arcs j)) same (calm_at hs 0 j arcs calm.calm below)

all_calm : (hs : List ℕ) (arcs new : List RequestArc) → length new ≡ length arcs → ((j : ℕ) → j < length arcs → IsCalmArc hs j (arc_at new j)) → (i : ℕ) → i < length new → IsCalmArc hs (0 + i) (arc_at new i)
all_calm hs arcs new long each i below = let same : i ≡ 0 + i = omega arith in subst (λ (n : ℕ). IsCalmArc hs n (arc_at new i)) same (each i (omega arith))

-- with arcs of which one was set
with_set : (hs room : List ℕ) (arcs : List RequestArc) (i : ℕ) (kept : Bool) → i < length arcs → slice_index hs i ≡ slice_index hs (arc_at arcs i).from + (arc_at arcs i).saving → IsCalm hs room arcs → IsCalm hs room (slice_set arcs i (arc_kept kept (arc_at arcs i)))
with_set hs room arcs i kept below tight calm =
    let new : List RequestArc = slice_set arcs i (arc_kept kept (arc_at arcs i)) in
    let long : length new ≡ length arcs = set-length arcs i (arc_kept kept (arc_at arcs i)) in
    record {
      count = omega (arith, calm.count, long);
      rises = λ node within. calm.rises node (omega (arith, long));
      full = λ node within some. calm.full node (omega (arith, long)) some;
      calm = calm_all hs 0 new (all_calm hs arcs new long (set_calm hs arcs i kept below tight (arcs_calm hs room arcs calm)));
    }

-- with other room, if each place that gained room is flat
with_room : (hs room new : List ℕ) (arcs : List RequestArc) → IsCalm hs room arcs → ((node : ℕ) → node < length arcs → 0 < slice_index new node → slice_index hs (node + 1) ≤ slice_index hs node) → IsCalm hs new arcs
with_room hs room new arcs calm full = record { count = calm.count; rises = calm.rises; full = full; calm = calm.calm }

pub turned_is_calm : (hs room : List ℕ) (arcs : List RequestArc) (residual : ResidualArc) (node : ℕ) → length room ≡ length arcs → IsCalm hs room arcs → IsResidual hs room arcs residual node 0 → IsCalm hs (augmented_room residual node room) (augmented_arcs residual node arcs)
turned_is_calm hs room arcs residuals.Start node long calm residual = calm
turned_is_calm hs room arcs residuals.Right node long calm (some, most, tight) =
    with_room hs room (slice_set room (node - 1) (slice_index room (node - 1) + 1)) arcs calm (λ place below left. elim (set_at room (node - 1) place (slice_index room (node - 1) + 1) (omega arith)) [
      | inl same ↦ calm.full place below (omega (arith, same))
      | inr (same, is) ↦
          let here : node - 1 ≡ place = omega arith in
          let next : node ≡ place + 1 = omega arith in
          let low : slice_index hs (node - 1) ≡ slice_index hs place = ap (λ (n : ℕ). slice_index hs n) here in
          let high : slice_index hs node ≡ slice_index hs (place + 1) = ap (λ (n : ℕ). slice_index hs n) next in
          omega (arith, low, high, tight)
    ])
turned_is_calm hs room arcs residuals.Left node long calm (below, some, tight) =
    with_room hs room (slice_set room node (slice_index room node - 1)) arcs calm (λ place within left. elim (set_at room node place (slice_index room node - 1) (omega arith)) [
      | inl same ↦ calm.full place within (omega (arith, same))
      | inr (same, is) ↦ calm.full place within (let here : slice_index room place ≡ slice_index room node = ap (λ (n : ℕ). slice_index room n) same in omega (arith, here))
    ])
turned_is_calm hs room arcs (residuals.Back later) node long calm (below, kept, from, tight) =
    let start : slice_index hs (arc_at arcs later).from ≡ slice_index hs node = ap (λ (n : ℕ). slice_index hs n) from in
    with_set hs room arcs later false below (omega (arith, start)) calm
turned_is_calm hs room arcs residuals.On node long calm (below, kept, tight) = with_set hs room arcs node true below (omega arith) calm
