-- A search for a path from a source to a target.
use Rattle.std.proofs.Common.{◌≡◌, ℕ, zero, suc, ◌+◌, ◌^◌, ◌<◌, ◌≤◌, Bool, true, false, cond, inl, inr, List, [], ◌∷◌, length, replicate, slice_index, Option, Some, None, refl, sym, ap, ◌∙◌, subst, arith}
use Rattle.std.specs.Prelude.{slice_set, is_some, IsSome}
use Rattle.std.proofs.lemmas.Bool.{cases_eq}
use Rattle.std.proofs.lemmas.List.{get_or-set_same, get_or-set_other, length-replicate}
use Rattle.retention_flow.specs.declared.arcs.RequestArc.{RequestArc}
use Rattle.retention_flow.specs.declared.steps.Step.{Step}
use Rattle.retention_flow.specs.declared.steps.Leaving.{Leaving}
use Rattle.retention_flow.specs.declared.steps.ResidualArc.{ResidualArc}
use Rattle.retention_flow.specs.declared.steps.ResidualArc.TheVariants as residuals
use Rattle.retention_flow.specs.Network.{GoBack, SaveLittle, IsCalm, AreLow, IsSlack, IsNoMore, IsRaised, is_reached, IsResidual, tail_of, Leaves, step_at, IsSearch, unreached}
use Rattle.retention_flow.proofs.RaisedIsCalm.{raised_is_calm, risen, risen-length, risen_at}
use Rattle.retention_flow.proofs.ResidualsStayOpen.{some_same, length_set}

none_at : (n node : ℕ) → step_at (replicate n None) node ≡ None
none_at zero node = refl
none_at (suc n) zero = refl
none_at (suc n) (suc node) = none_at n node

-- ---- the start

-- at first only the source is reached
pub first_search : (hs room : List ℕ) (arcs : List RequestArc) (steps : List (Option Step)) (nodes source : ℕ) → nodes ≡ length arcs + 1 → source ≤ length arcs → steps ≡ slice_set (replicate nodes None) source (Some (record { rank = 0; arc = residuals.Start })) → IsSearch hs room arcs steps source 1
first_search hs room arcs steps nodes source many below is =
    subst (λ (l : List (Option Step)). IsSearch hs room arcs l source 1) (sym (is ∙ ap (λ (n : ℕ). slice_set (replicate n None) source (Some start)) many)) (record {
      long = length_set none source (Some start) ∙ length-replicate (length arcs + 1) None;
      start = ap is_some here;
      tight = λ node step at. elim (cases_eq node source) [
        | inl same ↦
            let step_is : step ≡ start = some_same step start (sym at ∙ ap (step_at first) same ∙ here) in
            subst (λ (s : Step). (node ≤ length arcs) × (s.rank < 1) × IsResidual hs room arcs s.arc node 0) (sym step_is) (omega arith, omega arith, tt)
        | inr differs ↦ absurd (other node step differs at)
      ];
      from = λ node step at. elim (cases_eq node source) [
        | inl same ↦
            let step_is : step ≡ start = some_same step start (sym at ∙ ap (step_at first) same ∙ here) in
            inl (ap (λ (s : Step). s.arc) step_is, same)
        | inr differs ↦ absurd (other node step differs at)
      ];
    })
  where
    start : Step
    start = record { rank = 0; arc = residuals.Start }

    none : List (Option Step)
    none = replicate (length arcs + 1) None

    first : List (Option Step)
    first = slice_set none source (Some start)

    here : step_at first source ≡ Some start
    here = get_or-set_same none source (Some start) None (omega (arith, length-replicate {A = Option Step} (length arcs + 1) None))

    other : (node : ℕ) (step : Step) → (node ≡ source → ⊥) → step_at first node ≡ Some step → ⊥
    other node step differs at =
        let empty : step_at first node ≡ None = get_or-set_other none source node (Some start) None differs ∙ none_at (length arcs + 1) node in
        let bad : true ≡ false = ap is_some (sym at ∙ empty) in absurd (cc)

-- ---- some arc leaves

-- if no arc left the nodes reached, heights could rise past any bound
pub some_leaves : (hs room : List ℕ) (arcs : List RequestArc) (steps : List (Option Step)) (source target : ℕ) (least : Option Leaving) → IsCalm hs room arcs → GoBack arcs → AreLow room arcs target (slice_index hs target) → source ≤ length arcs → target ≤ length arcs
    → is_reached steps target ≡ false → is_reached steps source ≡ true → ((by : ℕ) → IsNoMore by least → IsSlack hs room arcs (is_reached steps) by) → IsSome least
some_leaves hs room arcs steps source target (Some leaving) calm back low start end fresh reached slack = refl
some_leaves hs room arcs steps source target None calm back low start end fresh reached slack =
    let by : ℕ = 2 ^ 27 + 1 in
    let new : List ℕ = risen 0 hs (is_reached steps) by in
    let raised : IsRaised hs new (is_reached steps) by = λ node below.
    let same : 0 + node ≡ node = omega arith in
    subst (λ (n : ℕ). slice_index new node ≡ slice_index hs node + cond (is_reached steps n) by 0) same (risen_at 0 hs (is_reached steps) by node below) in
    let new_calm : IsCalm new room arcs = raised_is_calm hs new room arcs (is_reached steps) by back calm (risen-length 0 hs (is_reached steps) by) raised (slack by tt) in
    let flat : slice_index new target ≡ slice_index hs target + 0 = raised target (omega (arith, calm.count)) ∙ ap (λ (b : Bool). slice_index hs target + cond b by 0) fresh in
    let high : slice_index new source ≡ slice_index hs source + by = raised source (omega (arith, calm.count)) ∙ ap (λ (b : Bool). slice_index hs source + cond b by 0) reached in
    absurd (omega (arith, high, low new new_calm (omega (arith, flat)) source (omega (arith, new_calm.count))))

-- ---- its end

pub unreached-most : (steps : List (Option Step)) → unreached steps ≤ length steps
unreached-most [] = omega arith
unreached-most (None ∷ steps) = omega (arith, unreached-most steps)
unreached-most (Some step ∷ steps) = omega (arith, unreached-most steps)

pub fewer_unreached : (steps : List (Option Step)) (node : ℕ) (step : Step) → node < length steps → is_reached steps node ≡ false → unreached (slice_set steps node (Some step)) < unreached steps
fewer_unreached [] node step below fresh = absurd (omega arith)
fewer_unreached (None ∷ steps) zero step below fresh = omega arith
fewer_unreached (Some other ∷ steps) zero step below fresh = absurd (cc)
fewer_unreached (None ∷ steps) (suc node) step below fresh = omega (arith, fewer_unreached steps node step (omega arith) fresh)
fewer_unreached (Some other ∷ steps) (suc node) step below fresh = fewer_unreached steps node step (omega arith) fresh

-- ---- heights

-- an arc's slack is at most the greatest height and what the arc saves
pub slack_small : (hs room : List ℕ) (arcs : List RequestArc) (steps : List (Option Step)) (leaving : Leaving) → length hs ≡ length arcs + 1 → SaveLittle arcs → ((node : ℕ) → node < length hs → slice_index hs node ≤ 2 ^ 27)
    → Leaves hs room arcs steps leaving → leaving.slack ≤ 2 ^ 28
slack_small hs room arcs steps leaving long little small (most, residual, fresh, before) = by leaving.arc residual before
  where
    by : (residual : ResidualArc) → IsResidual hs room arcs residual leaving.node leaving.slack → is_reached steps (tail_of arcs residual leaving.node) ≡ true → leaving.slack ≤ 2 ^ 28
    by residuals.Start none reached = let bad : true ≡ false = sym reached ∙ fresh in absurd (cc)
    by residuals.Right (some, below, tight) reached = omega (arith, small leaving.node (omega arith))
    by residuals.Left (below, some, tight) reached = omega (arith, small leaving.node (omega arith))
    by (residuals.Back later) (below, kept, from, tight) reached = omega (arith, small leaving.node (omega arith), little later below)
    by residuals.On (below, kept, tight) reached = omega (arith, small leaving.node (omega arith))
