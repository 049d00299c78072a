use Rattle.std.proofs.Common.{◌≡◌, ℕ, ◌+◌, ◌-◌, ◌<◌, List, length, slice_index, Option, refl, sym, ◌∙◌, subst, arith}
use Rattle.retention_flow.specs.declared.steps.Step.{Step}
use Rattle.retention_flow.specs.Network.{IsRoom, IsSearch}
use Rattle.retention_flow.proofs.HeightsAreBounded.{low_from_first}
use Rattle.retention_flow.proofs.PathIsTurned.{room_from_first, room_at_last}
use Rattle.retention_flow.proofs.taking.take_away.Goals as goal

pub loop-init : goal.loop-init
loop-init c = record {
  calm = c.requires.calm;
  first = c.requires.zero 0;
  small = λ node below. omega (arith, c.requires.zero node);
  back = c.requires.back;
  little = c.requires.little;
  many = refl;
  later = (c.in_ok-later.ensures.long, c.in_ok-later.ensures.within);
  first_arcs = c.in_ok-first.ensures;
  room = λ slots spent. let same : slots ≡ slots - 0 = omega arith in subst (λ (n : ℕ). IsRoom n c.args.room.now c.args.arcs.now) same spent;
  arcs = λ held rs are. are;
}

pub search-requires-clause-network : goal.search-requires-clause-network
search-requires-clause-network c =
    let many = length c.loop.arcs in
    record {
      back = c.loop.invariant.back;
      little = c.loop.invariant.little;
      places = (c.loop.invariant.room c.requires.room.0 c.requires.room.3).count;
      later = subst (λ (l : List ℕ). (length l ≡ many) × ((node : ℕ) → node < many → slice_index l node < many)) (sym c.as_slice.ensures.value) c.loop.invariant.later;
      first = subst (λ (l : List ℕ). (place : ℕ) → place < length l → slice_index l place < many) (sym c.as_slice-in-loop.ensures.value) c.loop.invariant.first_arcs;
    }

pub search-requires-clause-calm : goal.search-requires-clause-calm
search-requires-clause-calm c = c.loop.invariant.calm

pub search-requires-clause-low : goal.search-requires-clause-low
search-requires-clause-low c =
    let r = c.requires.room in
    low_from_first (r.0 - c.loop.counter) c.loop.room c.loop.arcs (slice_index c.loop.heights 0) c.loop.invariant.first (omega (arith, c.requires.most, c.loop.invariant.many)) (omega (arith, r.1, c.loop-test.true)) (c.loop.invariant.room r.0 r.3) c.loop.invariant.back c.loop.invariant.little

pub augment-requires-clause-back : goal.augment-requires-clause-back
augment-requires-clause-back c = c.loop.invariant.back

pub augment-requires-clause-little : goal.augment-requires-clause-little
augment-requires-clause-little c = c.loop.invariant.little

pub augment-requires-clause-search : goal.augment-requires-clause-search
augment-requires-clause-search c =
    let r = c.requires.room in
    let found = c.in_ok-steps.ensures.found.steps in (
      c.search.new.heights,
      found.0,
      r.0 - c.loop.counter,
      omega (arith, r.2),
      c.in_ok-steps.ensures.found.calm,
      subst (λ (l : List (Option Step)). IsSearch c.search.new.heights c.loop.room c.loop.arcs l (length c.args.arcs.now) found.0) (sym c.deref.ensures.value) found.1,
      room_from_first (r.0 - c.loop.counter) c.loop.room c.loop.arcs (c.loop.invariant.room r.0 r.3),
    )

pub loop-preserved : goal.loop-preserved
loop-preserved c =
    let r = c.requires.room in
    let hs = c.search.new.heights in
    let calm = c.in_ok-steps.ensures.found.calm in
    let count = c.in_ok-steps.ensures.found.steps.0 in
    let last = length c.args.arcs.now in
    let found = subst (λ (l : List (Option Step)). IsSearch hs c.loop.room c.loop.arcs l last count) (sym c.deref.ensures.value) c.in_ok-steps.ensures.found.steps.1 in
    let turned = c.augment.ensures.turned hs count in
    let one = turned (r.0 - c.loop.counter) calm found (room_from_first (r.0 - c.loop.counter) c.loop.room c.loop.arcs (c.loop.invariant.room r.0 r.3)) in
    let many : length c.augment.new.arcs ≡ length c.loop.arcs = omega (arith, calm.count, one.0.count) in
    record {
      calm = one.0;
      later = (omega (arith, c.loop.invariant.later.0), λ node below. omega (arith, c.loop.invariant.later.1 node (omega arith)));
      first_arcs = λ place below. omega (arith, c.loop.invariant.first_arcs place below);
      first = c.in_ok-steps.ensures.found.target ∙ c.loop.invariant.first;
      small = low_from_first (r.0 - c.loop.counter) c.loop.room c.loop.arcs (slice_index c.loop.heights 0) c.loop.invariant.first (omega (arith, c.requires.most, c.loop.invariant.many)) (omega (arith, r.1, c.loop-test.true)) (c.loop.invariant.room r.0 r.3) c.loop.invariant.back c.loop.invariant.little
          hs calm c.in_ok-steps.ensures.found.target;
      back = c.augment.ensures.back;
      little = c.augment.ensures.little;
      many = omega (arith, many, c.loop.invariant.many);
      room = λ slots spent.
          let same : slots - c.loop.counter - 1 ≡ slots - (c.loop.counter + 1) = omega arith in
          let walked = turned (slots - c.loop.counter) calm found (room_from_first (slots - c.loop.counter) c.loop.room c.loop.arcs (c.loop.invariant.room slots spent)) in
          subst (λ (n : ℕ). IsRoom n c.augment.new.room c.augment.new.arcs) same (room_at_last (slots - c.loop.counter) last c.augment.new.room c.augment.new.arcs (omega arith) (omega arith) walked.1);
      arcs = λ held rs are. c.augment.ensures.arcs held rs (c.loop.invariant.arcs held rs are);
    }

pub returns-clause-calm : goal.returns-clause-calm
returns-clause-calm c = c.loop.invariant.calm

pub returns-clause-small : goal.returns-clause-small
returns-clause-small c = c.loop.invariant.small

pub returns-clause-room : goal.returns-clause-room
returns-clause-room c = λ slots spent.
    let same : slots - c.loop.counter ≡ slots - c.args.count = omega (arith, c.loop.auto.counter-end, c.loop-test.false) in
    subst (λ (n : ℕ). IsRoom n c.loop.room c.loop.arcs) same (c.loop.invariant.room slots spent)

pub returns-clause-arcs : goal.returns-clause-arcs
returns-clause-arcs c = c.loop.invariant.arcs
