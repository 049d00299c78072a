use Rattle.std.proofs.Common.{◌≡◌, ℕ, ◌+◌, ◌<◌, List, length, slice_index, Option, refl, sym, subst, arith}
use Rattle.retention_flow.specs.declared.steps.Step.{Step}
use Rattle.retention_flow.specs.Network.{IsSearch}
use Rattle.retention_flow.proofs.HeightsAreBounded.{low_from_last}
use Rattle.retention_flow.proofs.PathIsTurned.{room_from_last, room_at_first}
use Rattle.retention_flow.proofs.SlotsAreAdded.{flat_room}
use Rattle.retention_flow.proofs.adding.add_slots.Goals as goal

pub loop-init : goal.loop-init
loop-init c = record {
  calm = c.in_ok-raise_by_distances.ensures.calm;
  low = omega (arith, c.in_ok-raise_by_distances.ensures.target, c.requires.low);
  back = c.requires.back;
  little = c.requires.little;
  many = refl;
  later = (c.in_ok-later.ensures.long, c.in_ok-later.ensures.within);
  first_arcs = c.in_ok-first.ensures;
  room = c.requires.room;
  arcs = λ held rs are. are;
}

pub quick_search-requires-clause-network : goal.quick_search-requires-clause-network
quick_search-requires-clause-network c =
    let many = length c.loop.arcs in
    record {
      back = c.loop.invariant.back;
      little = c.loop.invariant.little;
      places = c.loop.invariant.room.count;
      later = subst (λ (l : List ℕ). (length l ≡ many) × ((node : ℕ) → node < many → slice_index l node < many)) (sym c.as_slice-in-loop.ensures.value) c.loop.invariant.later;
      first = subst (λ (l : List ℕ). (place : ℕ) → place < length l → slice_index l place < many) (sym c.as_slice-in-loop-2.ensures.value) c.loop.invariant.first_arcs;
    }

pub quick_search-requires-clause-calm : goal.quick_search-requires-clause-calm
quick_search-requires-clause-calm c = c.loop.invariant.calm

pub quick_search-requires-clause-low : goal.quick_search-requires-clause-low
quick_search-requires-clause-low c =
    low_from_last c.loop.room c.loop.arcs (length c.args.arcs.now) (slice_index c.loop.heights (length c.args.arcs.now)) (sym c.loop.invariant.many) c.loop.invariant.low

pub augment-requires-clause-back : goal.augment-requires-clause-back
augment-requires-clause-back c = c.loop.invariant.back

pub augment-requires-clause-little : goal.augment-requires-clause-little
augment-requires-clause-little c = c.loop.invariant.little

pub augment-requires-clause-search : goal.augment-requires-clause-search
augment-requires-clause-search c =
    let found = c.in_ok-steps.ensures.found.steps in (
      c.quick_search.new.heights,
      found.0,
      c.loop.counter + 1,
      omega (arith, c.requires.count, c.loop-test.true),
      c.in_ok-steps.ensures.found.calm,
      subst (λ (l : List (Option Step)). IsSearch c.quick_search.new.heights c.loop.room c.loop.arcs l 0 found.0) (sym c.deref.ensures.value) found.1,
      room_from_last c.loop.counter (length c.args.arcs.now) c.loop.room c.loop.arcs (omega (arith, c.loop.invariant.many)) c.loop.invariant.room,
    )

pub loop-preserved : goal.loop-preserved
loop-preserved c =
    let hs = c.quick_search.new.heights in
    let calm = c.in_ok-steps.ensures.found.calm in
    let count = c.in_ok-steps.ensures.found.steps.0 in
    let last = length c.args.arcs.now in
    let found = subst (λ (l : List (Option Step)). IsSearch hs c.loop.room c.loop.arcs l 0 count) (sym c.deref.ensures.value) c.in_ok-steps.ensures.found.steps.1 in
    let turned = c.augment.ensures.turned hs count (c.loop.counter + 1) calm found (room_from_last c.loop.counter last c.loop.room c.loop.arcs (omega (arith, c.loop.invariant.many)) c.loop.invariant.room) in
    let many : length c.augment.new.arcs ≡ length c.loop.arcs = omega (arith, calm.count, turned.0.count) in
    record {
      calm = turned.0;
      low = omega (arith, c.in_ok-steps.ensures.found.target, c.loop.invariant.low);
      back = c.augment.ensures.back;
      little = c.augment.ensures.little;
      many = omega (arith, many, c.loop.invariant.many);
      later = (omega (arith, c.loop.invariant.later.0), λ node below. omega (arith, c.loop.invariant.later.1 node (omega arith)));
      first_arcs = λ place below. omega (arith, c.loop.invariant.first_arcs place below);
      room = room_at_first (c.loop.counter + 1) c.augment.new.room c.augment.new.arcs (omega arith) turned.1;
      arcs = λ held rs are. c.augment.ensures.arcs held rs (c.loop.invariant.arcs held rs are);
    }

pub returns-then-heights-ends-clause-calm : goal.returns-then-heights-ends-clause-calm
returns-then-heights-ends-clause-calm c =
    flat_room c.loop.heights c.loop.room c.loop.arcs c.loop.counter c.args.count (length c.args.arcs.now) c.loop.invariant.calm c.loop.invariant.room (omega (arith, c.loop-test.true)) (sym c.loop.invariant.many) c.if-heights-ends.true

pub returns-then-heights-ends-clause-small : goal.returns-then-heights-ends-clause-small
returns-then-heights-ends-clause-small c =
    low_from_last c.loop.room c.loop.arcs (length c.args.arcs.now) (slice_index c.loop.heights (length c.args.arcs.now)) (sym c.loop.invariant.many) c.loop.invariant.low c.loop.heights c.loop.invariant.calm refl

pub returns-clause-small : goal.returns-clause-small
returns-clause-small c =
    low_from_last c.loop.room c.loop.arcs (length c.args.arcs.now) (slice_index c.loop.heights (length c.args.arcs.now)) (sym c.loop.invariant.many) c.loop.invariant.low c.loop.heights c.loop.invariant.calm refl

pub raise_by_distances-requires-clause-small : goal.raise_by_distances-requires-clause-small
raise_by_distances-requires-clause-small c = λ node below. omega (arith, low_from_last c.args.room.now c.args.arcs.now (length c.args.arcs.now) (slice_index c.args.heights.now (length c.args.arcs.now)) refl c.requires.low c.args.heights.now c.requires.calm refl node below)

pub raise_by_distances-requires-clause-network : goal.raise_by_distances-requires-clause-network
raise_by_distances-requires-clause-network c =
    let many = length c.args.arcs.now in
    record {
      back = c.requires.back;
      little = c.requires.little;
      places = c.requires.room.count;
      later = subst (λ (l : List ℕ). (length l ≡ many) × ((node : ℕ) → node < many → slice_index l node < many)) (sym c.as_slice.ensures.value) (c.in_ok-later.ensures.long, c.in_ok-later.ensures.within);
      first = subst (λ (l : List ℕ). (place : ℕ) → place < length l → slice_index l place < many) (sym c.as_slice-2.ensures.value) c.in_ok-first.ensures;
    }
