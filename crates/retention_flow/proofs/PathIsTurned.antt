-- Augmenting along a whole path, from the target of a search back to its source.
use Rattle.std.proofs.Common.{◌≡◌, ℕ, ◌+◌, ◌-◌, ◌<◌, ◌≤◌, Bool, true, false, inl, inr, List, length, Option, Some, None, refl, sym, ap, ◌∙◌, subst, arith}
use Rattle.std.specs.Prelude.{slice_set}
use Rattle.std.proofs.lemmas.Bool.{cases_eq}
use Rattle.known_state.specs.Requests.{Asked}
use Rattle.known_state.specs.Plans.{at_start}
use Rattle.retention_flow.specs.declared.arcs.RequestArc.{RequestArc}
use Rattle.retention_flow.specs.declared.steps.Step.{Step}
use Rattle.retention_flow.specs.declared.steps.ResidualArc.{ResidualArc}
use Rattle.retention_flow.specs.declared.steps.ResidualArc.TheVariants as residuals
use Rattle.retention_flow.specs.Network.{AreArcs, GoBack, SaveLittle, IsCalm, IsRoom, IsRoomFrom, arc_at, arc_kept, is_reached, step_at, IsResidual, tail_of, IsReachedFrom, IsSearch, augmented_room, augmented_arcs}
use Rattle.retention_flow.proofs.ResidualsStayOpen.{some_step, some_same}
use Rattle.retention_flow.proofs.TurnedArcs.{arc_other, arc_set, from_set, arcs_set}
use Rattle.retention_flow.proofs.TurnedResiduals.{augmented_room-length, augmented_arcs-length, turned_is_calm}
use Rattle.retention_flow.proofs.ResidualsAreTurned.{residual_stays}
use Rattle.retention_flow.proofs.TurnedIsSpent.{side_yes, side_no, turned_is_walked}

-- ---- one arc is augmented

pub saving_set : (arcs : List RequestArc) (i j : ℕ) (kept : Bool) → i < length arcs → (arc_at (slice_set arcs i (arc_kept kept (arc_at arcs i))) j).saving ≡ (arc_at arcs j).saving
saving_set arcs i j kept below = elim (cases_eq j i) [
  | inl same ↦ ap (λ (n : ℕ). (arc_at (slice_set arcs i (arc_kept kept (arc_at arcs i))) n).saving) same ∙ ap (λ (a : RequestArc). a.saving) (arc_set arcs i (arc_kept kept (arc_at arcs i)) below) ∙ ap (λ (n : ℕ). (arc_at arcs n).saving) (sym same)
  | inr differs ↦ ap (λ (a : RequestArc). a.saving) (arc_other arcs i j (arc_kept kept (arc_at arcs i)) differs)
]

from_turned : (hs room : List ℕ) (arcs : List RequestArc) (residual : ResidualArc) (node i : ℕ) → IsResidual hs room arcs residual node 0 → (arc_at (augmented_arcs residual node arcs) i).from ≡ (arc_at arcs i).from
from_turned hs room arcs residuals.Start node i residual = refl
from_turned hs room arcs residuals.Right node i residual = refl
from_turned hs room arcs residuals.Left node i residual = refl
from_turned hs room arcs (residuals.Back later) node i (within, kept, from, tight) = from_set arcs later i false within
from_turned hs room arcs residuals.On node i (within, kept, tight) = from_set arcs node i true within

saving_turned : (hs room : List ℕ) (arcs : List RequestArc) (residual : ResidualArc) (node i : ℕ) → IsResidual hs room arcs residual node 0 → (arc_at (augmented_arcs residual node arcs) i).saving ≡ (arc_at arcs i).saving
saving_turned hs room arcs residuals.Start node i residual = refl
saving_turned hs room arcs residuals.Right node i residual = refl
saving_turned hs room arcs residuals.Left node i residual = refl
saving_turned hs room arcs (residuals.Back later) node i (within, kept, from, tight) = saving_set arcs later i false within
saving_turned hs room arcs residuals.On node i (within, kept, tight) = saving_set arcs node i true within

before_turned : (hs room : List ℕ) (arcs : List RequestArc) (turned residual : ResidualArc) (node other : ℕ) → IsResidual hs room arcs turned node 0 → tail_of (augmented_arcs turned node arcs) residual other ≡ tail_of arcs residual other
before_turned hs room arcs turned residuals.Start node other open_arc = refl
before_turned hs room arcs turned residuals.Right node other open_arc = refl
before_turned hs room arcs turned residuals.Left node other open_arc = refl
before_turned hs room arcs turned (residuals.Back later) node other open_arc = refl
before_turned hs room arcs turned residuals.On node other open_arc = from_turned hs room arcs turned node other open_arc

reached_turned : (hs room : List ℕ) (arcs : List RequestArc) (steps : List (Option Step)) (turned : ResidualArc) (source node other : ℕ) (step : Step) → IsResidual hs room arcs turned node 0 → IsReachedFrom arcs steps source other step → IsReachedFrom (augmented_arcs turned node arcs) steps source other step
reached_turned hs room arcs steps turned source node other step open_arc (inl start) = inl start
reached_turned hs room arcs steps turned source node other step open_arc (inr (before, at, earlier)) = inr (before, ap (step_at steps) (before_turned hs room arcs turned step.arc node other open_arc) ∙ at, earlier)

arcs_turned : (held : List (List ℕ)) (rs : List Asked) (hs room : List ℕ) (arcs : List RequestArc) (residual : ResidualArc) (node : ℕ) → IsResidual hs room arcs residual node 0 → (tail_of arcs residual node ≡ node → ⊥) → AreArcs (at_start held) rs arcs → AreArcs (at_start held) rs (augmented_arcs residual node arcs)
arcs_turned held rs hs room arcs residuals.Start node residual differs are = are
arcs_turned held rs hs room arcs residuals.Right node residual differs are = are
arcs_turned held rs hs room arcs residuals.Left node residual differs are = are
arcs_turned held rs hs room arcs (residuals.Back later) node (within, kept, from, tight) differs are = arcs_set (at_start held) rs arcs later false within (inl refl) are
arcs_turned held rs hs room arcs residuals.On node (within, kept, tight) differs are = arcs_set (at_start held) rs arcs node true within (inr (λ same. differs (omega (arith, same)))) are

-- ---- the path

abbrev pub rank_of : Option Step → ℕ
rank_of None = 0
rank_of (Some step) = step.rank

-- how many nodes were reached before a node
abbrev pub rank_at : List (Option Step) → ℕ → ℕ
rank_at steps node = rank_of (step_at steps node)

-- The path has been walked from the target to this node: heights are calm for what was augmented, and the arcs by
-- which nodes were reached no later than this one can still be augmented.
pub record IsWalk (hs : List ℕ) (slots : ℕ) (room : List ℕ) (arcs : List RequestArc) (steps : List (Option Step)) (source node : ℕ) : Type 0 where
  pub calm : IsCalm hs room arcs
  pub walked : IsRoomFrom node slots room arcs
  pub long : length room ≡ length arcs
  pub back : GoBack arcs
  pub little : SaveLittle arcs
  pub here : (step : Step) × (step_at steps node ≡ Some step)
  pub within : (other : ℕ) (step : Step) → step_at steps other ≡ Some step → other ≤ length arcs
  pub from : (other : ℕ) (step : Step) → step_at steps other ≡ Some step → IsReachedFrom arcs steps source other step
  pub tight : (other : ℕ) (step : Step) → step_at steps other ≡ Some step → step.rank ≤ rank_at steps node → IsResidual hs room arcs step.arc other 0

pub first_walk : (hs room : List ℕ) (arcs : List RequestArc) (steps : List (Option Step)) (count slots source target : ℕ) → length room ≡ length arcs → GoBack arcs → SaveLittle arcs → is_reached steps target ≡ true → IsCalm hs room arcs → IsSearch hs room arcs steps source count → IsRoomFrom target slots room arcs
    → IsWalk hs slots room arcs steps source target
first_walk hs room arcs steps count slots source target long back little reached calm found walked = record {
  calm = calm;
  walked = walked;
  long = long;
  back = back;
  little = little;
  here = some_step (step_at steps target) reached;
  within = λ other step at. (found.tight other step at).0;
  from = found.from;
  tight = λ other step at low. (found.tight other step at).2;
}

-- the arc by which the node was reached can be augmented
pub residual_here : (hs room : List ℕ) (arcs : List RequestArc) (steps : List (Option Step)) (slots source node : ℕ) (step : Step) → IsWalk hs slots room arcs steps source node → step_at steps node ≡ Some step → IsResidual hs room arcs step.arc node 0
residual_here hs room arcs steps slots source node step walk is =
    let rank : rank_at steps node ≡ step.rank = ap rank_of is in
    walk.tight node step is (omega (arith, rank))

abbrev pub IsBefore : List RequestArc → List (Option Step) → ℕ → Step → Step → Type 0
IsBefore arcs steps node step before = (step_at steps (tail_of arcs step.arc node) ≡ Some before) × (before.rank < step.rank)

-- the node was reached from another
before_here : (hs room : List ℕ) (arcs : List RequestArc) (steps : List (Option Step)) (slots source node : ℕ) (step : Step) → IsWalk hs slots room arcs steps source node → step_at steps node ≡ Some step → (node ≡ source → ⊥)
    → (before : Step) × IsBefore arcs steps node step before
before_here hs room arcs steps slots source node step walk is more = elim (walk.from node step is) [
  | inl (start, same) ↦ absurd (more same)
  | inr (before, at, earlier) ↦ (before, (at, earlier))
]

pub rank_falls : (hs room : List ℕ) (arcs : List RequestArc) (steps : List (Option Step)) (slots source node next : ℕ) (step : Step) → IsWalk hs slots room arcs steps source node → step_at steps node ≡ Some step → (node ≡ source → ⊥) → next ≡ tail_of arcs step.arc node
    → rank_at steps next < rank_at steps node
rank_falls hs room arcs steps slots source node next step walk is more next_is =
    let before = before_here hs room arcs steps slots source node step walk is more in
    let rank : rank_at steps node ≡ step.rank = ap rank_of is in
    let lower : rank_at steps next ≡ before.0.rank = ap (rank_at steps) next_is ∙ ap rank_of before.1.0 in
    omega (arith, rank, lower, before.1.1)

step_differs : (steps : List (Option Step)) (one other : ℕ) (first second : Step) → step_at steps one ≡ Some first → step_at steps other ≡ Some second → first.rank < second.rank → one ≡ other → ⊥
step_differs steps one other first second at there less same =
    let step_is : first ≡ second = some_same first second (sym at ∙ ap (step_at steps) same ∙ there) in
    let rank : first.rank ≡ second.rank = ap (λ (s : Step). s.rank) step_is in
    absurd (omega (arith, rank))

turned_walk : (hs room : List ℕ) (arcs : List RequestArc) (steps : List (Option Step)) (slots source node : ℕ) (step before : Step) → IsWalk hs slots room arcs steps source node → step_at steps node ≡ Some step → IsBefore arcs steps node step before
    → IsWalk hs slots (augmented_room step.arc node room) (augmented_arcs step.arc node arcs) steps source (tail_of arcs step.arc node)
turned_walk hs room arcs steps slots source node step before walk is (at, earlier) =
    let residual = residual_here hs room arcs steps slots source node step walk is in
    let long : length (augmented_arcs step.arc node arcs) ≡ length arcs = augmented_arcs-length step.arc node arcs in
    let rank : rank_at steps node ≡ step.rank = ap rank_of is in
    let lower : rank_at steps (tail_of arcs step.arc node) ≡ before.rank = ap rank_of at in
    record {
      calm = turned_is_calm hs room arcs step.arc node walk.long walk.calm residual;
      walked = turned_is_walked hs room arcs step.arc node slots walk.long walk.back residual walk.walked;
      long = augmented_room-length step.arc node room ∙ walk.long ∙ sym long;
      back = λ i within. omega (arith, from_turned hs room arcs step.arc node i residual, walk.back i (omega (arith, long)));
      little = λ i within. omega (arith, saving_turned hs room arcs step.arc node i residual, walk.little i (omega (arith, long)));
      here = (before, at);
      within = λ other there is_there. omega (arith, walk.within other there is_there, long);
      from = λ other there is_there. reached_turned hs room arcs steps step.arc source node other there residual (walk.from other there is_there);
      tight = λ other there is_there low.
          residual_stays hs room arcs step.arc there.arc node other walk.long (step_differs steps other node there step is_there is (omega (arith, lower))) residual (walk.tight other there is_there (omega (arith, rank, lower)));
    }

pub next_walk : (hs room : List ℕ) (arcs : List RequestArc) (steps : List (Option Step)) (slots source node : ℕ) (step : Step) (room_next : List ℕ) (arcs_next : List RequestArc) (next : ℕ) → step_at steps node ≡ Some step → (node ≡ source → ⊥)
    → room_next ≡ augmented_room step.arc node room → arcs_next ≡ augmented_arcs step.arc node arcs → next ≡ tail_of arcs step.arc node
    → IsWalk hs slots room arcs steps source node → IsWalk hs slots room_next arcs_next steps source next
next_walk hs room arcs steps slots source node step room_next arcs_next next is more room_is arcs_is next_is walk =
    let before = before_here hs room arcs steps slots source node step walk is more in
    subst (λ (n : ℕ). IsWalk hs slots room_next arcs_next steps source n) (sym next_is)
    (subst (λ (l : List RequestArc). IsWalk hs slots room_next l steps source (tail_of arcs step.arc node)) (sym arcs_is)
    (subst (λ (l : List ℕ). IsWalk hs slots l (augmented_arcs step.arc node arcs) steps source (tail_of arcs step.arc node)) (sym room_is)
    (turned_walk hs room arcs steps slots source node step before.0 walk is before.1)))

pub next_arcs : (held : List (List ℕ)) (rs : List Asked) (hs room : List ℕ) (arcs : List RequestArc) (steps : List (Option Step)) (slots source node : ℕ) (step : Step) (arcs_next : List RequestArc) → step_at steps node ≡ Some step → (node ≡ source → ⊥)
    → arcs_next ≡ augmented_arcs step.arc node arcs → IsWalk hs slots room arcs steps source node → AreArcs (at_start held) rs arcs → AreArcs (at_start held) rs arcs_next
next_arcs held rs hs room arcs steps slots source node step arcs_next is more arcs_is walk are =
    let before = before_here hs room arcs steps slots source node step walk is more in
    subst (AreArcs (at_start held) rs) (sym arcs_is)
    (arcs_turned held rs hs room arcs step.arc node (residual_here hs room arcs steps slots source node step walk is) (step_differs steps (tail_of arcs step.arc node) node before.0 step before.1.0 is before.1.1) are)

-- at the source, the whole path is augmented
pub walked_all : (hs room : List ℕ) (arcs : List RequestArc) (steps : List (Option Step)) (slots source node : ℕ) → node ≡ source → IsWalk hs slots room arcs steps source node → IsCalm hs room arcs × IsRoomFrom source slots room arcs
walked_all hs room arcs steps slots source node same walk = (walk.calm, subst (λ (n : ℕ). IsRoomFrom n slots room arcs) same walk.walked)

-- ---- room at the ends of a path

-- at the last node, one slot fewer is free or used at each place than at the first
pub room_from_first : (slots : ℕ) (room : List ℕ) (arcs : List RequestArc) → IsRoom slots room arcs → IsRoomFrom 0 slots room arcs
room_from_first slots room arcs spent = λ place below. omega (arith, spent.spent place below, side_no place 0 (omega arith))

pub room_from_last : (slots target : ℕ) (room : List ℕ) (arcs : List RequestArc) → length arcs ≤ target → IsRoom slots room arcs → IsRoomFrom target (slots + 1) room arcs
room_from_last slots target room arcs last spent = λ place below. omega (arith, spent.spent place below, side_yes place target (omega arith))

pub room_at_first : (slots : ℕ) (room : List ℕ) (arcs : List RequestArc) → length room ≡ length arcs → IsRoomFrom 0 slots room arcs → IsRoom slots room arcs
room_at_first slots room arcs long walked = record { count = long; spent = λ place below. omega (arith, walked place below, side_no place 0 (omega arith)) }

pub room_at_last : (slots source : ℕ) (room : List ℕ) (arcs : List RequestArc) → length room ≡ length arcs → length arcs ≤ source → IsRoomFrom source slots room arcs → IsRoom (slots - 1) room arcs
room_at_last slots source room arcs long last walked = record { count = long; spent = λ place below. omega (arith, walked place below, side_yes place source (omega arith)) }
