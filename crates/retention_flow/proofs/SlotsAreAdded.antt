-- Adding slots, from none on.
use Rattle.std.proofs.Common.{◌≡◌, ℕ, zero, suc, ◌+◌, ◌-◌, ◌*◌, ◌<◌, ◌≤◌, Bool, true, false, ◌&&◌, cond, inl, inr, List, [], ◌∷◌, length, replicate, slice_index, refl, sym, ap, ◌∙◌, subst, arith}
use Rattle.std.specs.Prelude.{slice_set, nat_lt}
use Rattle.std.proofs.lemmas.Bool.{cases_eq}
use Rattle.std.proofs.lemmas.Bool.Decides.{nat_tests}
use Rattle.std.proofs.lemmas.List.{length-replicate}
use Rattle.known_state.specs.Requests.{Asked}
use Rattle.known_state.specs.Plans.{at_start, is_inside, kept_over}
use Rattle.retention_flow.specs.declared.arcs.RequestArc.{RequestArc}
use Rattle.retention_flow.specs.Network.{AreArcs, IsCalmRise, IsCalmArc, IsCalm, link_at, links_of, arc_at, arc_kept, GoBack, SaveLittle, SaveIfKept, IsKeptLoop, IsRoom}
use Rattle.retention_flow.proofs.RaisedIsCalm.{calm_all}
use Rattle.retention_flow.proofs.TurnedArcs.{arcs_set, arc_set, arc_other, from_set}
use Rattle.retention_flow.proofs.TurnedResiduals.{set-length}
use Rattle.retention_flow.proofs.PathIsTurned.{saving_set}
use Rattle.retention_flow.proofs.TheStartIsCalm.{zero_at}
use Rattle.retention_flow.proofs.HeightsAreBounded.{rises_between}

-- ---- only loops are kept

-- the arcs before a node are done
pub record IsLooped (start arcs : List RequestArc) (done : ℕ) : Type 0 where
  pub are : (held : List (List ℕ)) (rs : List Asked) → AreArcs (at_start held) rs start → AreArcs (at_start held) rs arcs
  pub back : GoBack arcs
  pub little : SaveLittle arcs
  pub loops : (node : ℕ) → node < done → IsKeptLoop node (arc_at arcs node)
  pub rest : (node : ℕ) → done ≤ node → arc_at arcs node ≡ arc_at start node

-- an arc that begins before its node isn't kept any more
pub loop_left : (start arcs new : List RequestArc) (done : ℕ) → done < length arcs → (arc_at arcs done).from < done → new ≡ slice_set arcs done (arc_kept false (arc_at arcs done)) → IsLooped start arcs done → IsLooped start new (done + 1)
loop_left start arcs new done below before is looped = subst (λ (l : List RequestArc). IsLooped start l (done + 1)) (sym is) (record {
  are = λ held rs are. arcs_set (at_start held) rs arcs done false below (inl refl) (looped.are held rs are);
  back = λ node within. omega (arith, from_set arcs done node false below, looped.back node (omega (arith, set-length arcs done set)));
  little = λ node within. omega (arith, saving_set arcs done node false below, looped.little node (omega (arith, set-length arcs done set)));
  loops = λ node within. elim (cases_eq node done) [
    | inl same ↦ subst (λ (n : ℕ). IsKeptLoop n (arc_at (slice_set arcs done set) n)) (sym same)
        (subst (λ (a : RequestArc). IsKeptLoop done a) (sym (arc_set arcs done set below)) (λ kept. absurd (cc), λ none at. absurd (omega (arith, at))))
    | inr differs ↦ subst (λ (a : RequestArc). IsKeptLoop node a) (sym (arc_other arcs done node set differs)) (looped.loops node (omega arith))
  ];
  rest = λ node beyond. arc_other arcs done node set (λ same. absurd (omega (arith, same))) ∙ looped.rest node (omega arith);
})
  where
    set : RequestArc
    set = arc_kept false (arc_at arcs done)

-- one that doesn't is a loop
pub loop_stays : (start arcs new : List RequestArc) (done : ℕ) → done < length arcs → done ≤ (arc_at arcs done).from → length start ≡ length arcs → SaveIfKept start → new ≡ arcs → IsLooped start arcs done → IsLooped start new (done + 1)
loop_stays start arcs new done below at many saves is looped = subst (λ (l : List RequestArc). IsLooped start l (done + 1)) (sym is) (record {
  are = looped.are;
  back = looped.back;
  little = looped.little;
  loops = λ node within. elim (cases_eq node done) [
    | inl same ↦ subst (λ (n : ℕ). IsKeptLoop n (arc_at arcs n)) (sym same) (λ kept. omega (arith, looped.back done below), λ none here. empty none)
    | inr differs ↦ looped.loops node (omega arith)
  ];
  rest = λ node beyond. looped.rest node (omega arith);
})
  where
    stayed : arc_at arcs done ≡ arc_at start done
    stayed = looped.rest done (omega arith)

    empty : (arc_at arcs done).kept ≡ false → (arc_at arcs done).saving ≡ 0
    empty none = ap (λ (a : RequestArc). a.saving) stayed ∙ saves done (omega (arith, many)) (ap (λ (a : RequestArc). a.kept) (sym stayed) ∙ none)

-- ---- the start

-- no loop passes over a place
none_over : (node : ℕ) (arcs : List RequestArc) (place : ℕ) → ((i : ℕ) → i < length arcs → IsKeptLoop (node + i) (arc_at arcs i)) → kept_over (links_of node arcs) place ≡ 0
none_over node [] place loops = refl
none_over node (arc ∷ arcs) place loops =
    let here : node + 0 ≡ node = omega arith in
    let first = subst (λ (n : ℕ). IsKeptLoop n arc) here (loops 0 (omega arith)) in
    let later = none_over (node + 1) arcs place (λ i below. let next : node + suc i ≡ node + 1 + i = omega arith in subst (λ (n : ℕ). IsKeptLoop n (arc_at arcs i)) next (loops (suc i) (omega arith))) in
    let none : ◌≡◌ {A = ℕ} (cond (arc.kept && is_inside place (link_at node arc)) 1 0) 0 = ap (λ (b : Bool). cond b 1 0) (by arc.kept refl first.0) in
    omega (arith, later, none)
  where
    outside : arc.from ≡ node → (nat_lt arc.from place && nat_lt place (node + 1)) ≡ false
    outside same = grind (arith, nat_tests)

    by : (kept : Bool) → arc.kept ≡ kept → (arc.kept ≡ true → arc.from ≡ node) → (kept && is_inside place (link_at node arc)) ≡ false
    by true is loop = outside (loop is)
    by false is loop = refl

steep_arc : (kept : Bool) (node from saving low high : ℕ) → from ≤ node → saving ≤ 32768 → low ≡ from * 32768 → high ≡ node * 32768 → (kept ≡ true → from ≡ node) → (kept ≡ false → from ≡ node → saving ≡ 0) → IsCalmRise kept saving low high
steep_arc true node from saving low high back little low_is high_is loop none = let same = loop refl in omega (arith, same)
steep_arc false node from saving low high back little low_is high_is loop none = elim (cases_eq from node) [
  | inl same ↦ let empty = none refl same in omega (arith, same, empty)
  | inr differs ↦ omega (arith, low_is, high_is)
]

steep_calm : (hs room : List ℕ) (arcs : List RequestArc) (nodes : ℕ) → GoBack arcs → SaveLittle arcs → ((node : ℕ) → node < length arcs → IsKeptLoop node (arc_at arcs node)) → nodes ≡ length arcs + 1 → length hs ≡ nodes
    → ((node : ℕ) → node < nodes → slice_index hs node ≡ node * 32768) → room ≡ replicate (length arcs) 0 → IsCalm hs room arcs × IsRoom 0 room arcs
steep_calm hs room arcs nodes back little loops many long steep room_is = (
  record {
    count = omega arith;
    rises = λ node below. omega (arith, steep node (omega arith), steep (node + 1) (omega arith));
    full = λ node below some. absurd (omega (arith, some, ap (λ (l : List ℕ). slice_index l node) room_is, zero_at (length arcs) node));
    calm = calm_all hs 0 arcs (λ i below.
        let arc = arc_at arcs i in
        let same : i ≡ 0 + i = omega arith in
        subst (λ (n : ℕ). IsCalmArc hs n arc) same
        (steep_arc arc.kept i arc.from arc.saving (slice_index hs arc.from) (slice_index hs i) (back i below) (little i below) (steep arc.from (omega (arith, back i below))) (steep i (omega arith)) (loops i below).0 (loops i below).1));
  },
  record {
    count = ap (λ (l : List ℕ). length l) room_is ∙ length-replicate {A = ℕ} (length arcs) 0;
    spent = λ node below. omega (
      arith,
      ap (λ (l : List ℕ). slice_index l node) room_is,
      zero_at (length arcs) node,
      none_over 0 arcs (node + 1) (λ i within. let same : i ≡ 0 + i = omega arith in subst (λ (n : ℕ). IsKeptLoop n (arc_at arcs i)) same (loops i within)),
    );
  },
)

pub steep_start : (found hs room : List ℕ) (arcs : List RequestArc) (nodes : ℕ) → GoBack arcs → SaveLittle arcs → ((node : ℕ) → node < length arcs → IsKeptLoop node (arc_at arcs node)) → nodes ≡ length arcs + 1 → hs ≡ found → length found ≡ nodes
    → ((node : ℕ) → node < nodes → slice_index found node ≡ node * 32768) → room ≡ replicate (length arcs) 0 → IsCalm hs room arcs × IsRoom 0 room arcs
steep_start found hs room arcs nodes back little loops many is long steep room_is =
    subst (λ (l : List ℕ). IsCalm l room arcs × IsRoom 0 room arcs) (sym is) (steep_calm found room arcs nodes back little loops many long steep room_is)

-- ---- the end

-- more room at each place
abbrev more_room : ℕ → List ℕ → List ℕ
more_room by [] = []
more_room by (free ∷ room) = (free + by) ∷ more_room by room

more_room-length : (by : ℕ) (room : List ℕ) → length (more_room by room) ≡ length room
more_room-length by [] = refl
more_room-length by (free ∷ room) = omega (arith, more_room-length by room)

more_room-at : (by : ℕ) (room : List ℕ) (i : ℕ) → i < length room → slice_index (more_room by room) i ≡ slice_index room i + by
more_room-at by [] i below = absurd (omega arith)
more_room-at by (free ∷ room) zero below = refl
more_room-at by (free ∷ room) (suc i) below = more_room-at by room i (omega arith)

-- where all heights are equal, more slots may be free
pub flat_room : (hs room : List ℕ) (arcs : List RequestArc) (slots count last : ℕ) → IsCalm hs room arcs → IsRoom slots room arcs → slots ≤ count → last ≡ length arcs → slice_index hs 0 ≡ slice_index hs last
    → (more : List ℕ) × IsCalm hs more arcs × IsRoom count more arcs
flat_room hs room arcs slots count last calm spent few last_is flat =
    let by : ℕ = count - slots in
    let more : List ℕ = more_room by room in (
      more,
      record {
        count = calm.count;
        rises = calm.rises;
        full = λ node below some. omega (arith, flat, rises_between hs room arcs 0 node calm (omega arith) (omega arith), rises_between hs room arcs (node + 1) last calm (omega arith) (omega arith));
        calm = calm.calm;
      },
      record {
        count = more_room-length by room ∙ spent.count;
        spent = λ node below. omega (arith, more_room-at by room node (omega (arith, spent.count)), spent.spent node below);
      },
    )
