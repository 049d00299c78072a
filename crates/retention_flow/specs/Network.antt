-- The requests and their links as a network. Its nodes are between the places of the requests: node 0 is before place
-- 1, and each other node is between the place of its number and the next.
use Rattle.std.specs.Prelude.{◌≡◌, ◌≤◌, ◌<◌, ℕ, suc, ◌+◌, ◌-◌, ◌^◌, nat_lt, Bool, true, false, List, [], ◌∷◌, length, map, slice_index, slice_index_or, slice_set, is_some, Option, Some, None, if◌then◌else◌, IfSome, ◌⊎◌}
use Rattle.std.specs.List.{AllByRecursion}
use Rattle.known_state.specs.Requests.{Asked}
use Rattle.known_state.specs.Plans.{Asking, after_request, Plan, Link, links, kept_over}
use Rattle.retention_flow.specs.declared.arcs.RequestArc.{RequestArc}
use Rattle.retention_flow.specs.declared.network.Network.{Network}
use Rattle.retention_flow.specs.declared.steps.Ends.{Ends}
use Rattle.retention_flow.specs.declared.steps.Step.{Step}
use Rattle.retention_flow.specs.declared.steps.Leaving.{Leaving}
use Rattle.retention_flow.specs.declared.steps.ResidualArc.{ResidualArc}
use Rattle.retention_flow.specs.declared.steps.ResidualArc.TheVariants as residuals

-- The arc of a request's link, kept: from the node at which the link begins to the node before the request, past the
-- places inside the link. Without a link, it is a loop that saves nothing and isn't kept.
abbrev pub arc_of : Option ℕ → ℕ → Asked → RequestArc
arc_of None node r = record { from = node; saving = 0; kept = false }
arc_of (Some from) node r = record { from = from; saving = r.write_cost - r.read_cost; kept = true }

-- the arcs of requests, one after another, with all links kept
abbrev pub arcs_from : Asking → List Asked → List RequestArc
arcs_from asking [] = []
arcs_from asking (r ∷ rs) = arc_of (asking.last r.name) asking.place r ∷ arcs_from (after_request asking r) rs

-- the arc is that of a request, whether it is kept or not
abbrev pub IsArc : Option ℕ → ℕ → Asked → RequestArc → Type 0
IsArc None node r arc = arc ≡ arc_of None node r
IsArc (Some from) node r arc = (arc.from ≡ from) × (arc.saving ≡ r.write_cost - r.read_cost)

-- the arcs are those of the requests, whichever are kept
abbrev pub AreArcs : Asking → List Asked → List RequestArc → Type 0
AreArcs asking [] [] = Unit {0}
AreArcs asking (r ∷ rs) (arc ∷ arcs) = IsArc (asking.last r.name) asking.place r arc × AreArcs (after_request asking r) rs arcs
AreArcs asking rs arcs = ⊥

-- which requests are kept
abbrev pub marks : List RequestArc → List Bool
marks arcs = map (λ arc. arc.kept) arcs

-- ---- heights

-- the price of a place is how far the heights rise over it
abbrev pub prices_of : List ℕ → List ℕ
prices_of [] = []
prices_of (height ∷ []) = []
prices_of (height ∷ (next ∷ heights)) = (next - height) ∷ prices_of (next ∷ heights)

-- the plan that keeps what is kept, at the prices of the heights
abbrev pub plan_of : List ℕ → List RequestArc → Plan
plan_of heights arcs = record { keep = marks arcs; prices = prices_of heights }

-- No change to what is kept gains anything: if an arc is kept, the heights rise by at most its saving from its one end
-- to the other; if it isn't, by at least its saving.
abbrev pub IsCalmRise : Bool → ℕ → ℕ → ℕ → Type 0
IsCalmRise true saving low high = high ≤ low + saving
IsCalmRise false saving low high = low + saving ≤ high

abbrev pub IsCalmArc : List ℕ → ℕ → RequestArc → Type 0
IsCalmArc heights node arc = IsCalmRise arc.kept arc.saving (slice_index heights arc.from) (slice_index heights node)

abbrev pub AreCalmArcs : List ℕ → ℕ → List RequestArc → Type 0
AreCalmArcs heights node [] = Unit {0}
AreCalmArcs heights node (arc ∷ arcs) = IsCalmArc heights node arc × AreCalmArcs heights (node + 1) arcs

-- The heights are calm: there is one for each node; they never decrease from a node to the next, and rise over a place
-- only if no slot is free there; and no change to a request's arc gains anything. The first number of `room` is that of
-- place 1.
pub record IsCalm (heights room : List ℕ) (arcs : List RequestArc) : Type 0 where
  pub count : length heights ≡ length arcs + 1
  pub rises : (node : ℕ) → node < length arcs → slice_index heights node ≤ slice_index heights (node + 1)
  pub full : (node : ℕ) → node < length arcs → 0 < slice_index room node → slice_index heights (node + 1) ≤ slice_index heights node
  pub calm : AreCalmArcs heights 0 arcs

-- at each place, the free slots and the links kept over it are `slots` together
abbrev pub AreSpent : ℕ → List ℕ → List (List ℕ) → List Asked → List RequestArc → Type 0
AreSpent slots room held rs arcs = (node : ℕ) → node < length rs → slice_index room node + kept_over (links held rs (marks arcs)) (node + 1) ≡ slots

-- ---- free slots

-- the link of the arc of the request after a node
abbrev pub link_at : ℕ → RequestArc → Link
link_at node arc = record { from = arc.from; to = node + 1; saving = arc.saving; kept = arc.kept }

-- the links of arcs, of which the first is that of the request after this node
abbrev pub links_of : ℕ → List RequestArc → List Link
links_of node [] = []
links_of node (arc ∷ arcs) = link_at node arc ∷ links_of (node + 1) arcs

-- the arc of the request after a node
abbrev pub arc_at : List RequestArc → ℕ → RequestArc
arc_at arcs node = slice_index_or arcs node (record { from = 0; saving = 0; kept = false })

-- no arc begins after its request
abbrev pub GoBack : List RequestArc → Type 0
GoBack arcs = (node : ℕ) → node < length arcs → (arc_at arcs node).from ≤ node

-- no arc saves more than the size of the greatest message
abbrev pub SaveLittle : List RequestArc → Type 0
SaveLittle arcs = (node : ℕ) → node < length arcs → (arc_at arcs node).saving ≤ 32768

-- at each place, the free slots and the arcs kept over it are `slots` together
pub record IsRoom (slots : ℕ) (room : List ℕ) (arcs : List RequestArc) : Type 0 where
  pub count : length room ≡ length arcs
  pub spent : (node : ℕ) → node < length arcs → slice_index room node + kept_over (links_of 0 arcs) (node + 1) ≡ slots

-- the same, but one slot fewer at each place before a node
abbrev pub IsRoomFrom : ℕ → ℕ → List ℕ → List RequestArc → Type 0
IsRoomFrom from slots room arcs = (node : ℕ) → node < length arcs → slice_index room node + kept_over (links_of 0 arcs) (node + 1) + (if nat_lt node from then 1 else 0) ≡ slots

-- the network of a search: no arc begins after its request, none saves more than the greatest message has bytes, there is
-- a count of free slots for each place, an arc that begins at a node ends at one before the last, and those that begin at the
-- first node are arcs of these
pub record IsNetwork (network : Network) : Type 0 where
  pub back : GoBack network.arcs.now
  pub little : SaveLittle network.arcs.now
  pub places : length network.room.now ≡ length network.arcs.now
  pub later : (length network.later.now ≡ length network.arcs.now) × ((node : ℕ) → node < length network.arcs.now → slice_index network.later.now node < length network.arcs.now)
  pub first : (place : ℕ) → place < length network.first.now → slice_index network.first.now place < length network.arcs.now

-- ---- a search

-- no height is above 2^32
abbrev pub AreSmall : List ℕ → Type 0
AreSmall heights = (node : ℕ) → node < length heights → slice_index heights node ≤ 2 ^ 32

-- heights that are calm, and this high at the target, are nowhere above 2^27
abbrev pub AreLow : List ℕ → List RequestArc → ℕ → ℕ → Type 0
AreLow room arcs target height = (heights : List ℕ) → IsCalm heights room arcs → slice_index heights target ≡ height → (node : ℕ) → node < length heights → slice_index heights node ≤ 2 ^ 27

-- the node is reached
abbrev pub is_reached : List (Option Step) → ℕ → Bool
is_reached steps node = is_some (slice_index_or steps node None)

-- the heights of the nodes reached rise by `by`, and no others do
abbrev pub IsRaised : List ℕ → List ℕ → (ℕ → Bool) → ℕ → Type 0
IsRaised heights new reached by = (node : ℕ) → node < length heights → slice_index new node ≡ slice_index heights node + (if reached node then by else 0)

-- A residual arc leaves the nodes reached if one of its ends is reached and the other isn't: it goes back from the
-- later end if the arc is kept, and on to the later end if it isn't. Its slack is at least `by`.
abbrev pub IsSlackOf : Bool → ℕ → ℕ → ℕ → Bool → Bool → ℕ → Type 0
IsSlackOf true saving low high reached_low reached_high by = reached_high ≡ true → reached_low ≡ false → high + by ≤ low + saving
IsSlackOf false saving low high reached_low reached_high by = reached_low ≡ true → reached_high ≡ false → low + saving + by ≤ high

-- every residual arc that leaves the nodes reached has a slack of at least `by`: to the next node, to the node before
-- if a slot is free, or over a request's arc
pub record IsSlack (heights room : List ℕ) (arcs : List RequestArc) (reached : ℕ → Bool) (by : ℕ) : Type 0 where
  pub right : (node : ℕ) → node < length arcs → reached node ≡ true → reached (node + 1) ≡ false → slice_index heights node + by ≤ slice_index heights (node + 1)
  pub left : (node : ℕ) → node < length arcs → 0 < slice_index room node → reached (node + 1) ≡ true → reached node ≡ false → slice_index heights (node + 1) + by ≤ slice_index heights node
  pub over : (node : ℕ) → node < length arcs →
      IsSlackOf (arc_at arcs node).kept (arc_at arcs node).saving (slice_index heights (arc_at arcs node).from) (slice_index heights node) (reached (arc_at arcs node).from) (reached node) by

-- an arc that isn't kept saves nothing
abbrev pub SaveIfKept : List RequestArc → Type 0
SaveIfKept arcs = (node : ℕ) → node < length arcs → (arc_at arcs node).kept ≡ false → (arc_at arcs node).saving ≡ 0

-- the arc is a loop if it is kept, and isn't one, or saves nothing, if it isn't kept
abbrev pub IsKeptLoop : ℕ → RequestArc → Type 0
IsKeptLoop node arc = (arc.kept ≡ true → arc.from ≡ node) × (arc.kept ≡ false → arc.from ≡ node → arc.saving ≡ 0)

-- The arc by which a node is reached is residual, with this reduced cost: from the node before it; from the node after
-- it, if a slot is free between them; back over an arc that is kept; or on over one that isn't. No arc leads to the
-- source of a search.
abbrev pub IsResidual : List ℕ → List ℕ → List RequestArc → ResidualArc → ℕ → ℕ → Type 0
IsResidual heights room arcs residuals.Start node slack = Unit {0}
IsResidual heights room arcs residuals.Right node slack = (1 ≤ node) × (node ≤ length arcs) × (slice_index heights (node - 1) + slack ≡ slice_index heights node)
IsResidual heights room arcs residuals.Left node slack = (node < length arcs) × (0 < slice_index room node) × (slice_index heights (node + 1) + slack ≡ slice_index heights node)
IsResidual heights room arcs (residuals.Back later) node slack =
    (later < length arcs) × ((arc_at arcs later).kept ≡ true) × ((arc_at arcs later).from ≡ node) × (slice_index heights later + slack ≡ slice_index heights node + (arc_at arcs later).saving)
IsResidual heights room arcs residuals.On node slack =
    (node < length arcs) × ((arc_at arcs node).kept ≡ false) × (slice_index heights (arc_at arcs node).from + (arc_at arcs node).saving + slack ≡ slice_index heights node)

-- the tail of that arc, from which the node is reached
abbrev pub tail_of : List RequestArc → ResidualArc → ℕ → ℕ
tail_of arcs residuals.Start node = node
tail_of arcs residuals.Right node = node - 1
tail_of arcs residuals.Left node = node + 1
tail_of arcs (residuals.Back later) node = later
tail_of arcs residuals.On node = (arc_at arcs node).from

-- the arc leaves the nodes reached
abbrev pub Leaves : List ℕ → List ℕ → List RequestArc → List (Option Step) → Leaving → Type 0
Leaves heights room arcs steps leaving =
    (leaving.node ≤ length arcs) × IsResidual heights room arcs leaving.arc leaving.node leaving.slack × (is_reached steps leaving.node ≡ false) × (is_reached steps (tail_of arcs leaving.arc leaving.node) ≡ true)

-- `by` is at most the least slack
abbrev pub IsNoMore : ℕ → Option Leaving → Type 0
IsNoMore by least = IfSome least (λ leaving. by ≤ leaving.slack)

-- the step by which a node was reached
abbrev pub step_at : List (Option Step) → ℕ → Option Step
step_at steps node = slice_index_or steps node None

-- a node is the source, or was reached from one that was reached earlier
abbrev pub IsReachedFrom : List RequestArc → List (Option Step) → ℕ → ℕ → Step → Type 0
IsReachedFrom arcs steps source node step = ((step.arc ≡ residuals.Start) × (node ≡ source)) ⊎ ((before : Step) × (step_at steps (tail_of arcs step.arc node) ≡ Some before) × (before.rank < step.rank))

-- the source is reached, and each other reached node over a residual arc of slack 0, from one that was reached earlier
pub record IsSearch (heights room : List ℕ) (arcs : List RequestArc) (steps : List (Option Step)) (source count : ℕ) : Type 0 where
  pub long : length steps ≡ length arcs + 1
  pub start : is_reached steps source ≡ true
  pub tight : (node : ℕ) (step : Step) → step_at steps node ≡ Some step → (node ≤ length arcs) × (step.rank < count) × IsResidual heights room arcs step.arc node 0
  pub from : (node : ℕ) (step : Step) → step_at steps node ≡ Some step → IsReachedFrom arcs steps source node step

-- what a search finds, if the heights were `before`: heights that are calm, and as high at the target as they were, and
-- how each node reached was reached
pub record IsFound (before heights : List ℕ) (network : Network) (ends : Ends) (reached : List (Option Step)) : Type 0 where
  pub calm : IsCalm heights network.room.now network.arcs.now
  pub target : slice_index heights ends.target ≡ slice_index before ends.target
  pub steps : (count : ℕ) × IsSearch heights network.room.now network.arcs.now reached ends.source count

-- how many nodes aren't reached
abbrev pub unreached : List (Option Step) → ℕ
unreached [] = 0
unreached (None ∷ steps) = suc (unreached steps)
unreached (Some step ∷ steps) = unreached steps

-- so far, the nodes of this list are reached, one after another
pub record IsSpread (heights room : List ℕ) (arcs : List RequestArc) (steps : List (Option Step)) (source : ℕ) (order : List ℕ) : Type 0 where
  pub found : IsSearch heights room arcs steps source (length order)
  pub nodes : AllByRecursion (λ node. node ≤ length arcs) order
  pub many : length order + unreached steps ≤ length arcs + 1

-- the room after the arc by which a node is reached is augmented
abbrev pub augmented_room : ResidualArc → ℕ → List ℕ → List ℕ
augmented_room residuals.Start node room = room
augmented_room residuals.Right node room = slice_set room (node - 1) (slice_index room (node - 1) + 1)
augmented_room residuals.Left node room = slice_set room node (slice_index room node - 1)
augmented_room (residuals.Back later) node room = room
augmented_room residuals.On node room = room

-- and the arcs
abbrev pub arc_kept : Bool → RequestArc → RequestArc
arc_kept kept arc = record { from = arc.from; saving = arc.saving; kept = kept }

abbrev pub augmented_arcs : ResidualArc → ℕ → List RequestArc → List RequestArc
augmented_arcs residuals.Start node arcs = arcs
augmented_arcs residuals.Right node arcs = arcs
augmented_arcs residuals.Left node arcs = arcs
augmented_arcs (residuals.Back later) node arcs = slice_set arcs later (arc_kept false (arc_at arcs later))
augmented_arcs residuals.On node arcs = slice_set arcs node (arc_kept true (arc_at arcs node))
