-- What is free and kept at each place as the arcs of a path are augmented one by one.
use Rattle.std.proofs.Common.{◌≡◌, ℕ, ◌+◌, ◌-◌, ◌<◌, ◌≤◌, Bool, true, false, ◌&&◌, cond, inl, inr, List, length, slice_index, refl, sym, ap, ◌∙◌, arith}
use Rattle.std.specs.Prelude.{slice_set, nat_lt}
use Rattle.std.proofs.lemmas.Bool.{cases_lt}
use Rattle.std.proofs.lemmas.List.{get_or-set_same, get_or-set_other}
use Rattle.std.proofs.lemmas.Bool.Decides.{nat_tests}
use Rattle.known_state.specs.Plans.{is_inside}
use Rattle.retention_flow.specs.declared.arcs.RequestArc.{RequestArc}
use Rattle.retention_flow.specs.declared.steps.ResidualArc.{ResidualArc}
use Rattle.retention_flow.specs.declared.steps.ResidualArc.TheVariants as residuals
use Rattle.retention_flow.specs.Network.{GoBack, link_at, arc_at, arc_kept, IsRoomFrom, IsResidual, tail_of, augmented_room, augmented_arcs}
use Rattle.retention_flow.proofs.TurnedArcs.{over_set}
use Rattle.retention_flow.proofs.TurnedResiduals.{set-length}

-- whether a place is before a node, and whether an arc passes it, as numbers
abbrev pub side : ℕ → ℕ → ℕ
side place node = cond (nat_lt place node) 1 0

abbrev passed : ℕ → ℕ → ℕ → ℕ
passed from to place = cond (nat_lt from (place + 1) && nat_lt (place + 1) (to + 1)) 1 0

pub side_yes : (place node : ℕ) → place < node → side place node ≡ 1
side_yes place node before = grind (arith, nat_tests)

pub side_no : (place node : ℕ) → node ≤ place → side place node ≡ 0
side_no place node beyond = grind (arith, nat_tests)

passed_yes : (from to place : ℕ) → from ≤ place → place < to → passed from to place ≡ 1
passed_yes from to place after before = grind (arith, nat_tests)

passed_before : (from to place : ℕ) → place < from → passed from to place ≡ 0
passed_before from to place before = grind (arith, nat_tests)

passed_beyond : (from to place : ℕ) → to ≤ place → passed from to place ≡ 0
passed_beyond from to place beyond = grind (arith, nat_tests)

-- the places before the end of an arc are those before its start and those that the arc passes
sides : (from to place : ℕ) → from ≤ to → side place from + passed from to place ≡ side place to
sides from to place up = elim (cases_lt place from) [
  | inl before ↦ omega (arith, side_yes place from before, side_yes place to (omega arith), passed_before from to place before)
  | inr after ↦ elim (cases_lt place to) [
    | inl within ↦ omega (arith, side_no place from after, side_yes place to within, passed_yes from to place after within)
    | inr beyond ↦ omega (arith, side_no place from after, side_no place to beyond, passed_beyond from to place beyond)
  ]
]

-- a kept arc counts over exactly the places that it passes
over_kept : (kept inside : Bool) → kept ≡ true → ◌≡◌ {A = ℕ} (cond (kept && inside) 1 0) (cond inside 1 0)
over_kept kept inside is = ap (λ (b : Bool). cond (b && inside) 1 0) is

over_other : (kept inside : Bool) → kept ≡ false → ◌≡◌ {A = ℕ} (cond (kept && inside) 1 0) 0
over_other kept inside is = ap (λ (b : Bool). cond (b && inside) 1 0) is

set_here : (l : List ℕ) (i j n : ℕ) → i < length l → i ≡ j → slice_index (slice_set l i n) j ≡ n
set_here l i j n below same = ap (λ (k : ℕ). slice_index (slice_set l i n) k) (sym same) ∙ get_or-set_same l i n 0 below

set_other : (l : List ℕ) (i j n : ℕ) → i < length l → (j ≡ i → ⊥) → slice_index (slice_set l i n) j ≡ slice_index l j
set_other l i j n below differs = get_or-set_other l i j n 0 differs

pub turned_is_walked : (hs room : List ℕ) (arcs : List RequestArc) (residual : ResidualArc) (node slots : ℕ) → length room ≡ length arcs → GoBack arcs → IsResidual hs room arcs residual node 0 → IsRoomFrom node slots room arcs
    → IsRoomFrom (tail_of arcs residual node) slots (augmented_room residual node room) (augmented_arcs residual node arcs)
turned_is_walked hs room arcs residuals.Start node slots long back residual walked = walked
turned_is_walked hs room arcs residuals.Right node slots long back (some, most, tight) walked = λ place below.
    elim (cases_lt place (node - 1)) [
      | inl before ↦ omega (arith, walked place below, set_other room (node - 1) place (slice_index room (node - 1) + 1) (omega arith) (λ same. absurd (omega arith)), side_yes place node (omega arith), side_yes place (node - 1) before)
      | inr after ↦ elim (cases_lt place node) [
        | inl here ↦
            let place_is : node - 1 ≡ place = omega arith in
            omega (arith, walked place below, set_here room (node - 1) place (slice_index room (node - 1) + 1) (omega arith) place_is, ap (λ (n : ℕ). slice_index room n) place_is, side_yes place node here, side_no place (node - 1) after)
        | inr beyond ↦ omega (arith, walked place below, set_other room (node - 1) place (slice_index room (node - 1) + 1) (omega arith) (λ same. absurd (omega arith)), side_no place node beyond, side_no place (node - 1) after)
      ]
    ]
turned_is_walked hs room arcs residuals.Left node slots long back (within, some, tight) walked = λ place below.
    elim (cases_lt place node) [
      | inl before ↦ omega (arith, walked place below, set_other room node place (slice_index room node - 1) (omega arith) (λ same. absurd (omega arith)), side_yes place node before, side_yes place (node + 1) (omega arith))
      | inr after ↦ elim (cases_lt node place) [
        | inl beyond ↦ omega (arith, walked place below, set_other room node place (slice_index room node - 1) (omega arith) (λ same. absurd (omega arith)), side_no place node after, side_no place (node + 1) (omega arith))
        | inr here ↦
            let place_is : node ≡ place = omega arith in
            omega (arith, walked place below, set_here room node place (slice_index room node - 1) (omega arith) place_is, ap (λ (n : ℕ). slice_index room n) place_is, some, side_no place node after, side_yes place (node + 1) (omega arith))
      ]
    ]
turned_is_walked hs room arcs (residuals.Back later) node slots long back (within, kept, from, tight) walked = λ place below.
    let at = arc_at arcs later in
    let up : at.from ≤ later = back later within in
    let start : side place at.from ≡ side place node = ap (λ (n : ℕ). side place n) from in
    let same : 0 + later ≡ later = omega arith in
    let inside : ◌≡◌ {A = ℕ} (cond (is_inside (place + 1) (link_at (0 + later) at)) 1 0) (passed at.from later place) = ap (λ (n : ℕ). cond (is_inside (place + 1) (link_at n at)) 1 0) same in
    omega (
      arith,
      walked place (omega (arith, set-length arcs later (arc_kept false at))),
      over_set 0 arcs later (place + 1) false within,
      over_kept at.kept (is_inside (place + 1) (link_at (0 + later) at)) kept,
      over_other false (is_inside (place + 1) (link_at (0 + later) at)) refl,
      inside,
      start,
      sides at.from later place up,
    )
turned_is_walked hs room arcs residuals.On node slots long back (within, kept, tight) walked = λ place below.
    let at = arc_at arcs node in
    let up : at.from ≤ node = back node within in
    let same : 0 + node ≡ node = omega arith in
    let inside : ◌≡◌ {A = ℕ} (cond (is_inside (place + 1) (link_at (0 + node) at)) 1 0) (passed at.from node place) = ap (λ (n : ℕ). cond (is_inside (place + 1) (link_at n at)) 1 0) same in
    omega (
      arith,
      walked place (omega (arith, set-length arcs node (arc_kept true at))),
      over_set 0 arcs node (place + 1) true within,
      over_other at.kept (is_inside (place + 1) (link_at (0 + node) at)) kept,
      over_kept true (is_inside (place + 1) (link_at (0 + node) at)) refl,
      inside,
      sides at.from node place up,
    )
