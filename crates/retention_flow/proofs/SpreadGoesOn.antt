-- Nodes reached one after another.
use Rattle.std.proofs.Common.{◌≡◌, ℕ, zero, suc, ◌+◌, ◌<◌, ◌≤◌, Bool, true, false, cond, List, [], ◌∷◌, ◌++◌, length, take, replicate, slice_index, Option, Some, None, refl, sym, ap, subst, arith}
use Rattle.std.specs.Prelude.{slice_set, IfSome}
use Rattle.std.specs.List.{AllByRecursion}
use Rattle.std.proofs.lemmas.List.{length_push, length-replicate}
use Rattle.retention_flow.specs.declared.arcs.RequestArc.{RequestArc}
use Rattle.retention_flow.specs.declared.steps.Step.{Step}
use Rattle.retention_flow.specs.declared.steps.Leaving.{Leaving}
use Rattle.retention_flow.specs.declared.steps.ResidualArc.TheVariants as residuals
use Rattle.retention_flow.specs.Network.{GoBack, IsCalm, IsRaised, IsSlack, IsNoMore, is_reached, step_at, Leaves, IsSearch, IsSpread, unreached}
use Rattle.retention_flow.proofs.RaisedIsCalm.{raised_is_calm}
use Rattle.retention_flow.proofs.ResidualsStayOpen.{some_step, one_more}
use Rattle.retention_flow.proofs.SearchGoesOn.{first_search, unreached-most, fewer_unreached}

nodes_push : (most : ℕ) (nodes : List ℕ) (node : ℕ) → AllByRecursion (λ n. n ≤ most) nodes → node ≤ most → AllByRecursion (λ n. n ≤ most) (nodes ++ node ∷ [])
nodes_push most [] node all below = (below, tt)
nodes_push most (first ∷ nodes) node (here, all) below = (here, nodes_push most nodes node all below)

pub node_at : (most : ℕ) (nodes : List ℕ) (index : ℕ) → AllByRecursion (λ n. n ≤ most) nodes → index < length nodes → slice_index nodes index ≤ most
node_at most [] index all below = absurd (omega arith)
node_at most (first ∷ nodes) zero (here, all) below = here
node_at most (first ∷ nodes) (suc index) (here, all) below = node_at most nodes index all (omega arith)

-- one more node is reached, after the heights rose by the slack of its arc
pub one_spread : (hs new room : List ℕ) (arcs : List RequestArc) (steps : List (Option Step)) (source : ℕ) (order : List ℕ) (leaving : Leaving) → GoBack arcs → length hs ≡ length arcs + 1 → IsRaised hs new (is_reached steps) leaving.slack
    → Leaves hs room arcs steps leaving → IsSpread hs room arcs steps source order
    → IsSpread new room arcs (slice_set steps leaving.node (Some (record { rank = length order; arc = leaving.arc }))) source (order ++ leaving.node ∷ [])
one_spread hs new room arcs steps source order leaving back long raised leaves spread =
    let made : Step = record { rank = length order; arc = leaving.arc } in
    let next : List (Option Step) = slice_set steps leaving.node (Some made) in
    let more : length order + 1 ≡ length (order ++ leaving.node ∷ []) = sym (length_push order leaving.node) in
    record {
      found = subst (λ (n : ℕ). IsSearch new room arcs next source n) more (one_more hs new room arcs steps source (length order) leaving back long raised spread.found leaves);
      nodes = nodes_push (length arcs) order leaving.node spread.nodes leaves.0;
      many = omega (arith, more, spread.many, fewer_unreached steps leaving.node made (omega (arith, leaves.0, spread.found.long)) leaves.2);
    }

-- if the slack is 0, the heights stay
pub one_reached : (hs room : List ℕ) (arcs : List RequestArc) (steps : List (Option Step)) (source : ℕ) (order : List ℕ) (leaving : Leaving) → GoBack arcs → length hs ≡ length arcs + 1 → leaving.slack ≡ 0
    → Leaves hs room arcs steps leaving → IsSpread hs room arcs steps source order
    → IsSpread hs room arcs (slice_set steps leaving.node (Some (record { rank = length order; arc = leaving.arc }))) source (order ++ leaving.node ∷ [])
one_reached hs room arcs steps source order leaving back long none leaves spread = one_spread hs hs room arcs steps source order leaving back long (λ node below. sym (by node (is_reached steps node))) leaves spread
  where
    by : (node : ℕ) (reached : Bool) → slice_index hs node + cond reached leaving.slack 0 ≡ slice_index hs node
    by node true = omega (arith, none)
    by node false = omega arith

-- at first only the source is reached
pub first_spread : (hs room : List ℕ) (arcs : List RequestArc) (steps : List (Option Step)) (nodes source : ℕ) → nodes ≡ length arcs + 1 → source ≤ length arcs → steps ≡ slice_set (replicate nodes None) source (Some (record { rank = 0; arc = residuals.Start }))
    → IsSpread hs room arcs steps source (source ∷ [])
first_spread hs room arcs steps nodes source many below is =
    let start : Step = record { rank = 0; arc = residuals.Start } in
    let none : List (Option Step) = replicate nodes None in
    let long : length none ≡ nodes = length-replicate nodes None in
    let within : source < length none = omega (arith, long) in
    record {
      found = first_search hs room arcs steps nodes source many below is;
      nodes = (below, tt);
      many = omega (arith, long, unreached-most none, ap unreached is, fewer_unreached none source start within (fresh nodes source));
    }
  where
    fresh : (n node : ℕ) → is_reached (replicate n None) node ≡ false
    fresh zero node = refl
    fresh (suc n) zero = refl
    fresh (suc n) (suc node) = fresh n node

-- the source is a node
pub source_within : (hs room : List ℕ) (arcs : List RequestArc) (steps : List (Option Step)) (source count : ℕ) → IsSearch hs room arcs steps source count → source ≤ length arcs
source_within hs room arcs steps source count found =
    let first = some_step (step_at steps source) found.start in
    (found.tight source first.0 first.1).0

pub some_reached : (hs room : List ℕ) (arcs : List RequestArc) (steps : List (Option Step)) (source count : ℕ) → IsSearch hs room arcs steps source count → 0 < count
some_reached hs room arcs steps source count found =
    let first = some_step (step_at steps source) found.start in
    omega (arith, (found.tight source first.0 first.1).1)

-- an arc that leaves leads to a node
pub leaves_within : (hs room : List ℕ) (arcs : List RequestArc) (steps : List (Option Step)) (leaving : Option Leaving) → length steps ≡ length arcs + 1 → IfSome leaving (Leaves hs room arcs steps) → IfSome leaving (λ arc. arc.node < length steps)
leaves_within hs room arcs steps None long leaves = tt
leaves_within hs room arcs steps (Some arc) long leaves = omega (arith, leaves.0, long)

pub leaves_below : (hs room : List ℕ) (arcs : List RequestArc) (steps : List (Option Step)) (leaving : Option Leaving) (most : ℕ) → length arcs < most → IfSome leaving (Leaves hs room arcs steps) → IfSome leaving (λ arc. arc.node < most)
leaves_below hs room arcs steps None most few leaves = tt
leaves_below hs room arcs steps (Some arc) most few leaves = omega (arith, leaves.0, few)

-- heights that rose by the least slack are calm, and that of the target is unchanged
pub raised_least : (hs new room : List ℕ) (arcs : List RequestArc) (steps : List (Option Step)) (target : ℕ) (least : Option Leaving) (leaving : Leaving) → GoBack arcs → IsCalm hs room arcs → target ≤ length arcs → is_reached steps target ≡ false → least ≡ Some leaving
    → ((by : ℕ) → IsNoMore by least → IsSlack hs room arcs (is_reached steps) by) → length new ≡ length hs → IsRaised hs new (is_reached steps) leaving.slack → IsCalm new room arcs × (slice_index new target ≡ slice_index hs target)
raised_least hs new room arcs steps target least leaving back calm below start is slack count raised =
    let few : IsNoMore leaving.slack least = subst (λ (o : Option Leaving). IsNoMore leaving.slack o) (sym is) (omega arith) in
    let flat : cond (is_reached steps target) leaving.slack 0 ≡ 0 = ap (λ (b : Bool). cond b leaving.slack 0) start in
    (raised_is_calm hs new room arcs (is_reached steps) leaving.slack back calm count raised (slack leaving.slack few), omega (arith, raised target (omega (arith, calm.count)), flat))

pub least_leaves : (hs room : List ℕ) (arcs : List RequestArc) (steps : List (Option Step)) (least : Option Leaving) (leaving : Leaving) → least ≡ Some leaving → IfSome least (Leaves hs room arcs steps) → Leaves hs room arcs steps leaving
least_leaves hs room arcs steps least leaving is some = subst (λ (o : Option Leaving). IfSome o (Leaves hs room arcs steps)) is some

-- a list that was borrowed whole is what was written
pub written : {A : Type 0} (new rest : List A) (n : ℕ) → n ≡ length new → take n (new ++ rest) ≡ new
written [] rest zero is = refl
written [] rest (suc n) is = absurd (omega (arith, is))
written (x ∷ xs) rest zero is = absurd (omega (arith, is))
written (x ∷ xs) rest (suc n) is = ap (λ l. x ∷ l) (written xs rest n (omega (arith, is)))
