use Rattle.std.proofs.Common.{◌≡◌, ℕ, ◌+◌, ◌-◌, ◌≤◌, get_or, refl, sym, ap, ◌∙◌, subst, arith}
use Rattle.known_state.specs.Plans.{kept_over}
use Rattle.known_state.proofs.LinkPlaces.{over_start}
use Rattle.price_checker.proofs.RoomIsKept.{few_over, few_from, over_here, room_everywhere, room_more}
use Rattle.price_checker.proofs.room.have_room.Goals as goal

pub loop-place-init : goal.loop-place-init
loop-place-init c = record {
  counted = sym (over_start c.args.links.now);
  room = λ place before.
      let here : 0 ≡ place = omega arith in
      subst (λ (q : ℕ). kept_over c.args.links.now q ≤ c.args.slots - 1) here (omega (arith, over_start c.args.links.now));
}

pub overflow_add-over : goal.overflow_add-over
overflow_add-over c =
    let ls = c.args.links.now in
    let before = c.loop-place.place - 1 in
    omega (arith, c.loop-place.invariant.counted, few_over ls before, c.kept_ends.ensures.begin before, few_from ls before)

pub overflow_sub-over-in-loop-place : goal.overflow_sub-over-in-loop-place
overflow_sub-over-in-loop-place c =
    let ls = c.args.links.now in
    let place = c.loop-place.place in
    omega (arith, c.loop-place.invariant.counted, c.kept_ends.ensures.begin (place - 1), c.kept_ends.ensures.end place, over_here ls place c.requires.within (omega arith))

pub returns-then-from-slots : goal.returns-then-from-slots
returns-then-from-slots c = (
  λ yes. absurd (cc),
  λ room.
      let ls = c.args.links.now in
      let place = c.loop-place.place in
      absurd (omega (arith, room place, c.loop-place.invariant.counted, c.kept_ends.ensures.begin (place - 1), c.kept_ends.ensures.end place, over_here ls place c.requires.within (omega arith))),
)

pub loop-place-preserved : goal.loop-place-preserved
loop-place-preserved c =
    let ls = c.args.links.now in
    let place = c.loop-place.place in
    let over : c.loop-place.over + get_or c.kept_ends.result.0 (place - 1) 0 - get_or c.kept_ends.result.1 place 0 ≡ kept_over ls place = omega (arith, c.loop-place.invariant.counted, c.kept_ends.ensures.begin (place - 1), c.kept_ends.ensures.end place, over_here ls place c.requires.within (omega arith)) in
    let next : place ≡ place + 1 - 1 = omega arith in
    record {
      counted = over ∙ ap (λ (q : ℕ). kept_over ls q) next;
      room = room_more c.args.slots place (kept_over ls place) ls refl (omega arith) c.loop-place.invariant.room;
    }

pub returns : goal.returns
returns c = (
  λ yes. room_everywhere c.args.slots c.args.links.now c.requires.within (λ place before. c.loop-place.invariant.room place (omega arith)),
  λ room. refl,
)
