-- A world in order stays so.
use Rattle.std.proofs.Common.{◌≡◌, ◌∙◌, ◌≤◌, ◌++◌, ◌∷◌, [], ℕ, List, None, ap, arith, drop, length, map, subst, sym, take}
use Rattle.std.specs.List.{AllByRecursion}
use Rattle.std.proofs.lemmas.List.{drop_all, take_all}
use Rattle.table_types.specs.declared.version.Version.{Version}
use Rattle.table_types.specs.Rosters.{roster_fault}
use Rattle.table_cell.specs.Histories.{CellState, IsSoundCell}
use Rattle.table_cell.proofs.HandingRows.{all_front}
use Rattle.interleave_core.specs.declared.step.Step.{Step}
use Rattle.interleave_core.specs.Core.{IsCore}
use Rattle.interleave_core.specs.Moves.{Moves, RunsTo}
use Rattle.interleave_core.specs.Opened.{CanBegin, IsInOrder}
use Rattle.interleave_core.specs.Since.{HasNewConnection, RowsAreCopiedSince}
use Rattle.interleave_core.specs.SoundWorlds.{IsSoundWorld, IsTimelyStep}
use Rattle.interleave_core.specs.Worlds.{ConnectionState, WorldState, new_world, roster_of, with_sessions}
use Rattle.interleave_core.proofs.Beginning.{new_connections, new_is_open}
use Rattle.interleave_core.proofs.CopiedSince.{rows_since}
use Rattle.interleave_core.proofs.OpenWorlds.{a_step_keeps_open}
use Rattle.interleave_core.proofs.Running.{LeadsOn, led}
use Rattle.interleave_core.proofs.VersionsKept.{new_keeps, keeps_step}
use Rattle.interleave_core.proofs.WorldNew.{new_world_sound}
use Rattle.interleave_core.proofs.WorldSteps.{between_sound, run_sound, step_sound}
use Rattle.interleave_core.proofs.WorldTold.{core_of}

-- after a step
pub in_order_next : (w e : WorldState) (step : Step) → IsTimelyStep step → Moves w step e → IsInOrder w → IsInOrder e
in_order_next w e step timely moves order = record { opened = a_step_keeps_open w e step moves order.opened; sound = step_sound w e step timely order.sound moves; versions = keeps_step w e step timely order.versions moves }

-- ---- a run

-- each world between the steps of a run keeps what is promised
pub core_between : (start now : WorldState) (steps : List Step) (i : ℕ) → length steps ≤ i → IsSoundWorld start
    → (AllByRecursion IsTimelyStep (drop i steps) → AllByRecursion IsTimelyStep steps) → LeadsOn start steps now (drop i steps)
    → (first rest : List Step) → steps ≡ first ++ rest → (mid : WorldState) × RunsTo start first mid × RunsTo mid rest now × IsCore mid
core_between start now steps i past sound timely leads first rest is =
    let all : AllByRecursion IsTimelyStep steps = timely (subst (AllByRecursion IsTimelyStep) (sym (drop_all i steps past)) tt) in
    let runs : RunsTo start (first ++ rest) now = subst (λ (l : List Step). RunsTo start l now) is (led start now steps i past leads) in
    let (mid, before, after, stays) = between_sound start now first rest (all_front IsTimelyStep first rest (subst (AllByRecursion IsTimelyStep) is all)) sound runs in
    (mid, before, after, core_of mid stays)

-- whatever world the first steps of a run lead to keeps what is promised
pub core_each : (start : WorldState) (steps : List Step) (i : ℕ) → length steps ≤ i → IsSoundWorld start
    → (AllByRecursion IsTimelyStep (drop i steps) → AllByRecursion IsTimelyStep steps)
    → (first rest : List Step) (mid : WorldState) → steps ≡ first ++ rest → RunsTo start first mid → IsCore mid
core_each start steps i past sound timely first rest mid is runs =
    let all : AllByRecursion IsTimelyStep steps = timely (subst (AllByRecursion IsTimelyStep) (sym (drop_all i steps past)) tt) in
    core_of mid (run_sound start mid first (all_front IsTimelyStep first rest (subst (AllByRecursion IsTimelyStep) is all)) sound runs)

-- and what a learner has there was copied since its connection was new
pub copied_since : (start : WorldState) (steps : List Step) (i : ℕ) → length steps ≤ i → IsSoundWorld start
    → (AllByRecursion IsTimelyStep (drop i steps) → AllByRecursion IsTimelyStep steps)
    → (first more rest : List Step) (begun mid : WorldState) (session : ℕ) → steps ≡ first ++ (more ++ rest) → RunsTo start first begun → HasNewConnection session begun → RunsTo begun more mid
    → RowsAreCopiedSince begun session mid
copied_since start steps i past sound timely first more rest begun mid session is runs new then =
    let all : AllByRecursion IsTimelyStep steps = timely (subst (AllByRecursion IsTimelyStep) (sym (drop_all i steps past)) tt) in
    let split : AllByRecursion IsTimelyStep (first ++ (more ++ rest)) = subst (AllByRecursion IsTimelyStep) is all in
    rows_since begun mid session more (all_front IsTimelyStep more rest (all_back IsTimelyStep first (more ++ rest) split))
    (run_sound start begun first (all_front IsTimelyStep first (more ++ rest) split) sound runs) new then
  where
    all_back : (P : Step → Type 0) (xs ys : List Step) → AllByRecursion P (xs ++ ys) → AllByRecursion P ys
    all_back P [] ys holds = holds
    all_back P (x ∷ xs) ys (one, others) = all_back P xs ys others

-- ---- the beginning

-- at the beginning, once all sessions are open
abbrev world : List CellState → List ConnectionState → WorldState
world tables connections = record { cells = tables; connections = connections }

pub new_in_order : (vs : List Version) (n : ℕ) (cells tables : List CellState) (connections : List ConnectionState) → length vs ≤ n → n ≤ length vs
    → tables ≡ map (with_sessions n vs) cells → connections ≡ new_connections (roster_of cells) (take n vs) → length vs ≤ 16 → roster_fault (roster_of cells) ≡ None
    → AllByRecursion IsSoundCell cells → AllByRecursion (CanBegin (length vs)) cells → IsInOrder (record { cells = tables; connections = connections })
new_in_order vs n cells tables connections least most opened connected few faultless sound begin =
    let all : n ≡ length vs = omega (arith, most, least) in
    let is : world tables connections ≡ new_world cells vs =
    ap (λ (ts : List CellState). world ts connections) opened
    ∙ ap (λ (cs : List ConnectionState). world (map (with_sessions n vs) cells) cs) (connected ∙ ap (new_connections (roster_of cells)) (take_all n vs least))
    ∙ ap (λ (m : ℕ). world (map (with_sessions m vs) cells) (new_connections (roster_of cells) vs)) all in
    subst (λ (x : WorldState). IsInOrder x) (sym is)
    (record { opened = new_is_open vs cells few begin; sound = new_world_sound cells vs few faultless sound begin; versions = new_keeps cells vs begin })
