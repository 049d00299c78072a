-- Residual arcs to reached nodes, as heights rise.
use Rattle.std.proofs.Common.{◌≡◌, ℕ, zero, suc, ◌+◌, ◌-◌, ◌<◌, ◌≤◌, Bool, true, false, cond, inl, inr, List, [], ◌∷◌, length, slice_index, Option, Some, None, refl, sym, ap, ◌∙◌, subst, arith}
use Rattle.std.specs.Prelude.{slice_set, is_some}
use Rattle.std.proofs.lemmas.Bool.{cases_eq}
use Rattle.std.proofs.lemmas.List.{get_or-set_same, get_or-set_other}
use Rattle.retention_flow.specs.declared.arcs.RequestArc.{RequestArc}
use Rattle.retention_flow.specs.declared.steps.Step.{Step}
use Rattle.retention_flow.specs.declared.steps.Leaving.{Leaving}
use Rattle.retention_flow.specs.declared.steps.ResidualArc.{ResidualArc}
use Rattle.retention_flow.specs.declared.steps.ResidualArc.TheVariants as residuals
use Rattle.retention_flow.specs.Network.{arc_at, GoBack, IsRaised, is_reached, IsResidual, tail_of, Leaves, step_at, IsReachedFrom, IsSearch}

-- The slack of an arc shrinks by the rise of its first end and grows by the rise of its second.
pub residual_raised : (hs new room : List ℕ) (arcs : List RequestArc) (residual : ResidualArc) (node slack : ℕ) (reached : ℕ → Bool) (by left : ℕ) → GoBack arcs → length hs ≡ length arcs + 1 → IsRaised hs new reached by
    → IsResidual hs room arcs residual node slack → reached (tail_of arcs residual node) ≡ true → left + by ≡ slack + cond (reached node) by 0 → node ≤ length arcs → IsResidual new room arcs residual node left
residual_raised hs new room arcs residuals.Start node slack reached by left back long raised residual before is below = residual
residual_raised hs new room arcs residuals.Right node slack reached by left back long raised (some, most, tight) before is below =
    let low : slice_index new (node - 1) ≡ slice_index hs (node - 1) + by = raised (node - 1) (omega arith) ∙ ap (λ (b : Bool). slice_index hs (node - 1) + cond b by 0) before in
    (some, most, omega (arith, low, raised node (omega arith)))
residual_raised hs new room arcs residuals.Left node slack reached by left back long raised (most, some, tight) before is below =
    let low : slice_index new (node + 1) ≡ slice_index hs (node + 1) + by = raised (node + 1) (omega arith) ∙ ap (λ (b : Bool). slice_index hs (node + 1) + cond b by 0) before in
    (most, some, omega (arith, low, raised node (omega arith)))
residual_raised hs new room arcs (residuals.Back later) node slack reached by left back long raised (most, kept, from, tight) before is below =
    let low : slice_index new later ≡ slice_index hs later + by = raised later (omega arith) ∙ ap (λ (b : Bool). slice_index hs later + cond b by 0) before in
    (most, kept, from, omega (arith, low, raised node (omega arith)))
residual_raised hs new room arcs residuals.On node slack reached by left back long raised (most, kept, tight) before is below =
    let start = (arc_at arcs node).from in
    let low : slice_index new start ≡ slice_index hs start + by = raised start (omega (arith, back node most)) ∙ ap (λ (b : Bool). slice_index hs start + cond b by 0) before in
    (most, kept, omega (arith, low, raised node (omega arith)))

pub reached_some : (steps : List (Option Step)) (node : ℕ) (step : Step) → step_at steps node ≡ Some step → is_reached steps node ≡ true
reached_some steps node step is = ap is_some is

-- a reached node stays reached over the same arc, if all reached nodes rise
step_raised : (hs new room : List ℕ) (arcs : List RequestArc) (steps : List (Option Step)) (source count by node : ℕ) (step : Step) → GoBack arcs → length hs ≡ length arcs + 1 → IsRaised hs new (is_reached steps) by
    → IsSearch hs room arcs steps source count → step_at steps node ≡ Some step → IsResidual new room arcs step.arc node 0
step_raised hs new room arcs steps source count by node step back long raised found is = by_from (found.from node step is)
  where
    here : cond (is_reached steps node) by 0 ≡ by
    here = ap (λ (b : Bool). cond b by 0) (reached_some steps node step is)

    residual : IsResidual hs room arcs step.arc node 0
    residual = (found.tight node step is).2

    by_from : IsReachedFrom arcs steps source node step → IsResidual new room arcs step.arc node 0
    by_from (inl (start, at_source)) = subst (λ (w : ResidualArc). IsResidual new room arcs w node 0) (sym start) (subst (λ (w : ResidualArc). IsResidual hs room arcs w node 0) start residual)
    by_from (inr (before, at, earlier)) =
        residual_raised hs new room arcs step.arc node 0 (is_reached steps) by 0 back long raised residual (reached_some steps (tail_of arcs step.arc node) before at) (omega (arith, here)) (found.tight node step is).0

pub set_at : (steps : List (Option Step)) (node other : ℕ) (step : Option Step) → node < length steps → (other ≡ node → ⊥) → step_at (slice_set steps node step) other ≡ step_at steps other
set_at steps node other step below differs = get_or-set_other steps node other step None differs

pub length_set : {A : Type 0} (l : List A) (i : ℕ) (a : A) → length (slice_set l i a) ≡ length l
length_set [] i a = refl
length_set (x ∷ xs) zero a = refl
length_set (x ∷ xs) (suc i) a = omega (arith, length_set xs i a)

unreached_step : (steps : List (Option Step)) (node : ℕ) (step : Step) → is_reached steps node ≡ false → step_at steps node ≡ Some step → ⊥
unreached_step steps node step none is = let bad : true ≡ false = sym (reached_some steps node step is) ∙ none in absurd (cc)

pub some_step : (o : Option Step) → is_some o ≡ true → (step : Step) × (o ≡ Some step)
some_step None is = absurd (cc)
some_step (Some step) is = (step, refl)

pub some_same : (one other : Step) → ◌≡◌ {A = Option Step} (Some one) (Some other) → one ≡ other
some_same one other same = ap (λ (o : Option Step). elim o [ None ↦ one | Some s ↦ s ]) same

-- one more node is reached, after the heights rose by the slack of its arc
pub one_more : (hs new room : List ℕ) (arcs : List RequestArc) (steps : List (Option Step)) (source count : ℕ) (leaving : Leaving) → GoBack arcs → length hs ≡ length arcs + 1 → IsRaised hs new (is_reached steps) leaving.slack
    → IsSearch hs room arcs steps source count → Leaves hs room arcs steps leaving → IsSearch new room arcs (slice_set steps leaving.node (Some (record { rank = count; arc = leaving.arc }))) source (count + 1)
one_more hs new room arcs steps source count leaving back long raised found (most, residual, fresh, before) = record {
  long = length_set steps leaving.node (Some made) ∙ found.long;
  start = elim (cases_eq source leaving.node) [
    | inl same ↦ reached_some next source made (ap (step_at next) same ∙ here)
    | inr differs ↦ ap is_some (other source differs) ∙ found.start
  ];
  tight = λ node step is. elim (cases_eq node leaving.node) [
    | inl same ↦
        let step_is : step ≡ made = some_same step made (sym is ∙ ap (step_at next) same ∙ here) in
        subst (λ (n : ℕ). (n ≤ length arcs) × (step.rank < count + 1) × IsResidual new room arcs step.arc n 0) (sym same)
        (subst (λ (s : Step). (leaving.node ≤ length arcs) × (s.rank < count + 1) × IsResidual new room arcs s.arc leaving.node 0) (sym step_is) (most, omega arith, turned))
    | inr differs ↦
        let was = sym (other node differs) ∙ is in
        let old = found.tight node step was in
        (old.0, omega (arith, old.1), step_raised hs new room arcs steps source count leaving.slack node step back long raised found was)
  ];
  from = λ node step is. elim (cases_eq node leaving.node) [
    | inl same ↦
        let step_is : step ≡ made = some_same step made (sym is ∙ ap (step_at next) same ∙ here) in
        let start : ℕ = tail_of arcs leaving.arc leaving.node in
        let first = some_step (step_at steps start) before in
        subst (λ (n : ℕ). IsReachedFrom arcs next source n step) (sym same)
        (subst (λ (s : Step). IsReachedFrom arcs next source leaving.node s) (sym step_is) (inr (first.0, kept start first.0 first.1, (found.tight start first.0 first.1).1)))
    | inr differs ↦
        let was = sym (other node differs) ∙ is in
        elim (found.from node step was) [
          | inl start ↦ inl start
          | inr (first, at, earlier) ↦ inr (first, kept (tail_of arcs step.arc node) first at, earlier)
        ]
  ];
}
  where
    made : Step
    made = record { rank = count; arc = leaving.arc }

    next : List (Option Step)
    next = slice_set steps leaving.node (Some made)

    here : step_at next leaving.node ≡ Some made
    here = get_or-set_same steps leaving.node (Some made) None (omega (arith, found.long))

    other : (node : ℕ) → (node ≡ leaving.node → ⊥) → step_at next node ≡ step_at steps node
    other node differs = set_at steps leaving.node node (Some made) (omega (arith, found.long)) differs

    kept : (node : ℕ) (step : Step) → step_at steps node ≡ Some step → step_at next node ≡ Some step
    kept node step is = other node (λ same. unreached_step steps leaving.node step fresh (sym (ap (step_at steps) same) ∙ is)) ∙ is

    turned : IsResidual new room arcs leaving.arc leaving.node 0
    turned = residual_raised hs new room arcs leaving.arc leaving.node leaving.slack (is_reached steps) leaving.slack 0 back long raised residual before (omega (arith, ap (λ (b : Bool). cond b leaving.slack 0) fresh)) most
