-- Raising the heights of the nodes reached.
use Rattle.std.proofs.Common.{◌≡◌, ℕ, zero, suc, ◌+◌, ◌<◌, ◌≤◌, Bool, true, false, cond, List, [], ◌∷◌, length, slice_index, refl, sym, ap, ◌∙◌, subst, arith}
use Rattle.retention_flow.specs.declared.arcs.RequestArc.{RequestArc}
use Rattle.retention_flow.specs.Network.{IsCalmRise, IsCalmArc, AreCalmArcs, IsCalm, arc_at, GoBack, IsRaised, IsSlack, IsSlackOf}

-- nothing that leaves the nodes reached has less slack: neither the place after a node, nor the arc of its request
abbrev pub IsSlackAt : List ℕ → List ℕ → List RequestArc → (ℕ → Bool) → ℕ → ℕ → Type 0
IsSlackAt heights room arcs reached by node =
    (reached node ≡ true → reached (node + 1) ≡ false → slice_index heights node + by ≤ slice_index heights (node + 1))
    × (0 < slice_index room node → reached (node + 1) ≡ true → reached node ≡ false → slice_index heights (node + 1) + by ≤ slice_index heights node)
    × IsSlackOf (arc_at arcs node).kept (arc_at arcs node).saving (slice_index heights (arc_at arcs node).from) (slice_index heights node) (reached (arc_at arcs node).from) (reached node) by

-- calm arcs, by index
pub calm_at : (hs : List ℕ) (node i : ℕ) (arcs : List RequestArc) → AreCalmArcs hs node arcs → i < length arcs → IsCalmArc hs (node + i) (arc_at arcs i)
calm_at hs node i [] calm below = absurd (omega arith)
calm_at hs node zero (arc ∷ arcs) (one, calm) below = let same : node ≡ node + 0 = omega arith in subst (λ (n : ℕ). IsCalmArc hs n arc) same one
calm_at hs node (suc i) (arc ∷ arcs) (one, calm) below =
    let same : node + 1 + i ≡ node + suc i = omega arith in
    subst (λ (n : ℕ). IsCalmArc hs n (arc_at arcs i)) same (calm_at hs (node + 1) i arcs calm (omega arith))

pub calm_all : (hs : List ℕ) (node : ℕ) (arcs : List RequestArc) → ((i : ℕ) → i < length arcs → IsCalmArc hs (node + i) (arc_at arcs i)) → AreCalmArcs hs node arcs
calm_all hs node [] each = tt
calm_all hs node (arc ∷ arcs) each =
    let same : node + 0 ≡ node = omega arith in (
      subst (λ (n : ℕ). IsCalmArc hs n arc) same (each 0 (omega arith)),
      calm_all hs (node + 1) arcs (λ i below. let next : node + suc i ≡ node + 1 + i = omega arith in subst (λ (n : ℕ). IsCalmArc hs n (arc_at arcs i)) next (each (suc i) (omega arith))),
    )

-- one arc, after each of its ends was raised or not
rise_calm : (kept reached_low reached_high : Bool) (saving low high by low_new high_new : ℕ) → IsCalmRise kept saving low high
    → low_new ≡ low + cond reached_low by 0 → high_new ≡ high + cond reached_high by 0
    → IsSlackOf kept saving low high reached_low reached_high by → IsCalmRise kept saving low_new high_new
rise_calm true true true saving low high by low_new high_new calm ls hs slack = omega arith
rise_calm true true false saving low high by low_new high_new calm ls hs slack = omega arith
rise_calm true false true saving low high by low_new high_new calm ls hs slack = omega (arith, slack refl refl)
rise_calm true false false saving low high by low_new high_new calm ls hs slack = omega arith
rise_calm false true true saving low high by low_new high_new calm ls hs slack = omega arith
rise_calm false true false saving low high by low_new high_new calm ls hs slack = omega (arith, slack refl refl)
rise_calm false false true saving low high by low_new high_new calm ls hs slack = omega arith
rise_calm false false false saving low high by low_new high_new calm ls hs slack = omega arith

-- one place, after each node next to it was raised or not
rise_up : (before after : Bool) (low high by low_new high_new : ℕ) → low ≤ high → low_new ≡ low + cond before by 0 → high_new ≡ high + cond after by 0
    → (before ≡ true → after ≡ false → low + by ≤ high) → low_new ≤ high_new
rise_up true true low high by low_new high_new up ls hs slack = omega arith
rise_up true false low high by low_new high_new up ls hs slack = omega (arith, slack refl refl)
rise_up false true low high by low_new high_new up ls hs slack = omega arith
rise_up false false low high by low_new high_new up ls hs slack = omega arith

pub raised_is_calm : (hs new room : List ℕ) (arcs : List RequestArc) (reached : ℕ → Bool) (by : ℕ) → GoBack arcs → IsCalm hs room arcs → length new ≡ length hs → IsRaised hs new reached by
    → IsSlack hs room arcs reached by → IsCalm new room arcs
raised_is_calm hs new room arcs reached by back calm long raised slack = record {
  count = omega (arith, calm.count);
  rises = λ node below. rise_up (reached node) (reached (node + 1)) (slice_index hs node) (slice_index hs (node + 1)) by (slice_index new node) (slice_index new (node + 1))
      (calm.rises node below) (raised node (omega (arith, calm.count))) (raised (node + 1) (omega (arith, calm.count))) (slack.right node below);
  full = λ node below some. rise_up (reached (node + 1)) (reached node) (slice_index hs (node + 1)) (slice_index hs node) by (slice_index new (node + 1)) (slice_index new node)
      (calm.full node below some) (raised (node + 1) (omega (arith, calm.count))) (raised node (omega (arith, calm.count))) (slack.left node below some);
  calm = calm_all new 0 arcs (λ i below.
      let arc = arc_at arcs i in
      let same : i ≡ 0 + i = omega arith in
      subst (λ (n : ℕ). IsCalmArc new n arc) same
      (rise_calm arc.kept (reached arc.from) (reached i) arc.saving (slice_index hs arc.from) (slice_index hs i) by (slice_index new arc.from) (slice_index new i)
      (subst (λ (n : ℕ). IsCalmArc hs n arc) (sym same) (calm_at hs 0 i arcs calm.calm below)) (raised arc.from (omega (arith, calm.count, back i below))) (raised i (omega (arith, calm.count))) (slack.over i below)));
}

-- a list of heights after raising
abbrev pub risen : ℕ → List ℕ → (ℕ → Bool) → ℕ → List ℕ
risen node [] reached by = []
risen node (h ∷ hs) reached by = (h + cond (reached node) by 0) ∷ risen (node + 1) hs reached by

pub risen-length : (node : ℕ) (hs : List ℕ) (reached : ℕ → Bool) (by : ℕ) → length (risen node hs reached by) ≡ length hs
risen-length node [] reached by = refl
risen-length node (h ∷ hs) reached by = omega (arith, risen-length (node + 1) hs reached by)

pub risen_at : (node : ℕ) (hs : List ℕ) (reached : ℕ → Bool) (by i : ℕ) → i < length hs → slice_index (risen node hs reached by) i ≡ slice_index hs i + cond (reached (node + i)) by 0
risen_at node [] reached by i below = absurd (omega arith)
risen_at node (h ∷ hs) reached by zero below = let same : node ≡ node + 0 = omega arith in ap (λ (n : ℕ). h + cond (reached n) by 0) same
risen_at node (h ∷ hs) reached by (suc i) below =
    let same : node + 1 + i ≡ node + suc i = omega arith in
    risen_at (node + 1) hs reached by i (omega arith) ∙ ap (λ (n : ℕ). slice_index hs i + cond (reached n) by 0) same
