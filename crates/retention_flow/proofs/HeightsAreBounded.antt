-- How high calm heights can be.
use Rattle.std.proofs.Common.{◌≡◌, ℕ, zero, suc, ◌+◌, ◌-◌, ◌*◌, ◌^◌, ◌<◌, ◌≤◌, Bool, true, false, ◌&&◌, cond, List, [], ◌∷◌, length, slice_index, refl, subst, inl, inr, arith}
use Rattle.std.specs.Prelude.{nat_lt}
use Rattle.std.specs.List.{AllByRecursion}
use Rattle.std.proofs.lemmas.Bool.{cases_lt}
use Rattle.std.proofs.lemmas.Bool.Decides.{nat_tests}
use Rattle.known_state.specs.Plans.{is_inside, kept_over}
use Rattle.retention_flow.specs.declared.arcs.RequestArc.{RequestArc}
use Rattle.retention_flow.specs.Network.{IsCalmRise, IsCalmArc, IsCalm, prices_of, link_at, links_of, arc_at, GoBack, IsRoom, AreLow, SaveLittle}
use Rattle.retention_flow.proofs.RaisedIsCalm.{calm_at}

-- an arc kept over a place
abbrev IsKeptOver : ℕ → List RequestArc → ℕ → ℕ → Type 0
IsKeptOver node arcs place i = (i < length arcs) × ((arc_at arcs i).kept ≡ true) × ((arc_at arcs i).from < place) × (place < node + i + 1)

inside_means : (kept : Bool) (from place to : ℕ) → (kept && (nat_lt from place && nat_lt place to)) ≡ true → (kept ≡ true) × (from < place) × (place < to)
inside_means true from place to is = (refl, grind (arith, nat_tests), grind (arith, nat_tests))
inside_means false from place to is = absurd (cc)

-- if any links are kept over a place, there is such a link
some_over : (node : ℕ) (arcs : List RequestArc) (place : ℕ) → 0 < kept_over (links_of node arcs) place → (i : ℕ) × IsKeptOver node arcs place i
some_over node [] place some = absurd (omega arith)
some_over node (arc ∷ arcs) place some = by (arc.kept && is_inside place (link_at node arc)) refl some (some_over (node + 1) arcs place)
  where
    by : (b : Bool) → (arc.kept && is_inside place (link_at node arc)) ≡ b → 0 < cond b 1 0 + kept_over (links_of (node + 1) arcs) place → (0 < kept_over (links_of (node + 1) arcs) place → (i : ℕ) × IsKeptOver (node + 1) arcs place i) → (i : ℕ) × IsKeptOver node (arc ∷ arcs) place i
    by true is some others =
        let means = inside_means arc.kept arc.from place (node + 1) is in
        (0, (omega arith, means.0, means.1, omega (arith, means.2)))
    by false is some others =
        let later = others (omega arith) in
        (suc later.0, (omega (arith, later.1.0), later.1.1, later.1.2, omega (arith, later.1.3)))

-- heights never decrease
pub rises_to : (hs room : List ℕ) (arcs : List RequestArc) (low more : ℕ) → IsCalm hs room arcs → low + more ≤ length arcs → slice_index hs low ≤ slice_index hs (low + more)
rises_to hs room arcs low zero calm below = let same : low ≡ low + 0 = omega arith in subst (λ (n : ℕ). slice_index hs low ≤ slice_index hs n) same (omega arith)
rises_to hs room arcs low (suc more) calm below =
    let same : low + more + 1 ≡ low + suc more = omega arith in
    subst (λ (n : ℕ). slice_index hs low ≤ slice_index hs n) same (omega (arith, rises_to hs room arcs low more calm (omega arith), calm.rises (low + more) (omega arith)))

pub rises_between : (hs room : List ℕ) (arcs : List RequestArc) (low high : ℕ) → IsCalm hs room arcs → low ≤ high → high ≤ length arcs → slice_index hs low ≤ slice_index hs high
rises_between hs room arcs low high calm up below =
    let same : low + (high - low) ≡ high = omega arith in
    subst (λ (n : ℕ). slice_index hs low ≤ slice_index hs n) same (rises_to hs room arcs low (high - low) calm (omega arith))

kept_rise : (kept : Bool) (saving low high : ℕ) → kept ≡ true → IsCalmRise kept saving low high → high ≤ low + saving
kept_rise true saving low high is calm = calm
kept_rise false saving low high is calm = absurd (cc)

-- over one place, they rise by at most what one arc saves
one_rise : (hs room : List ℕ) (arcs : List RequestArc) (slots node : ℕ) → 0 < slots → IsCalm hs room arcs → IsRoom slots room arcs → GoBack arcs → SaveLittle arcs → node < length arcs
    → slice_index hs (node + 1) ≤ slice_index hs node + 32768
one_rise hs room arcs slots node some calm spent back little below = elim (cases_lt 0 (slice_index room node)) [
  | inl left ↦ omega (arith, calm.full node below left)
  | inr none ↦
      let over = some_over 0 arcs (node + 1) (omega (arith, spent.spent node below)) in
      let i = over.0 in
      let within : i < length arcs = over.1.0 in
      let before : (arc_at arcs i).from < node + 1 = over.1.2 in
      let after : node + 1 < 0 + i + 1 = over.1.3 in
      let same : 0 + i ≡ i = omega arith in
      let rise : slice_index hs i ≤ slice_index hs (arc_at arcs i).from + (arc_at arcs i).saving =
      kept_rise (arc_at arcs i).kept (arc_at arcs i).saving (slice_index hs (arc_at arcs i).from) (slice_index hs i) over.1.1
      (subst (λ (n : ℕ). IsCalmArc hs n (arc_at arcs i)) same (calm_at hs 0 i arcs calm.calm within)) in
      omega (arith, rise, little i within, rises_between hs room arcs (arc_at arcs i).from node calm (omega arith) (omega arith), rises_between hs room arcs (node + 1) i calm (omega arith) (omega arith))
]

-- so the height of a node is bounded
pub height_bounded : (hs room : List ℕ) (arcs : List RequestArc) (slots node : ℕ) → 0 < slots → slice_index hs 0 ≡ 0 → IsCalm hs room arcs → IsRoom slots room arcs → GoBack arcs → SaveLittle arcs → node ≤ length arcs
    → slice_index hs node ≤ node * 32768
height_bounded hs room arcs slots zero some first calm spent back little below = omega arith
height_bounded hs room arcs slots (suc node) some first calm spent back little below =
    let next : node + 1 ≡ suc node = omega arith in
    let up : slice_index hs (suc node) ≤ slice_index hs node + 32768 = subst (λ (n : ℕ). slice_index hs n ≤ slice_index hs node + 32768) next (one_rise hs room arcs slots node some calm spent back little (omega arith)) in
    omega (arith, up, height_bounded hs room arcs slots node some first calm spent back little (omega arith))

-- where slots are used or free at each place, heights that are 0 at the first node are low
pub low_from_first : (slots : ℕ) (room : List ℕ) (arcs : List RequestArc) (height : ℕ) → height ≡ 0 → length arcs ≤ 4096 → 0 < slots → IsRoom slots room arcs → GoBack arcs → SaveLittle arcs → AreLow room arcs 0 height
low_from_first slots room arcs height zero_is most some spent back little =
    λ hs calm first node below. omega (arith, first, height_bounded hs room arcs slots node some (omega (arith, first)) calm spent back little (omega (arith, calm.count)))

-- no height is above that of the last node
pub low_from_last : (room : List ℕ) (arcs : List RequestArc) (last height : ℕ) → last ≡ length arcs → height ≤ 2 ^ 27 → AreLow room arcs last height
low_from_last room arcs last height is few = λ hs calm at node below. omega (arith, at, rises_between hs room arcs node last calm (omega (arith, calm.count)) (omega arith))

-- and so is its price
pub prices_bounded : (hs : List ℕ) → ((i : ℕ) → i < length hs → slice_index hs i ≤ 2 ^ 32) → AllByRecursion (λ price. price ≤ 2 ^ 32) (prices_of hs)
prices_bounded [] each = tt
prices_bounded (h ∷ []) each = tt
prices_bounded (h ∷ (k ∷ hs)) each =
    let second : k ≤ 2 ^ 32 = each 1 (omega arith) in
    (omega (arith, second), prices_bounded (k ∷ hs) (λ i below. each (suc i) (omega arith)))
