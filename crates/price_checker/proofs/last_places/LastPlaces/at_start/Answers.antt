use Rattle.std.proofs.Common.{◌≡◌, ℕ, ◌+◌, ◌≤◌, ◌<◌, cond, List, length, take, take_all, get_or, Option, Some, None, rules, sym, ap, subst, ◌∙◌, arith}
use Rattle.table_types.specs.Rosters.{is_same_name}
use Rattle.known_state.specs.Plans.{at_start, names_in}
use Rattle.price_checker.specs.declared.last_places.LastPlace.{LastPlace}
use Rattle.price_checker.specs.LastPlaces.{place_of}
use Rattle.price_checker.specs.NamesHeld.{slots_held}
use Rattle.price_checker.proofs.NamesAtStart.{all_held, empty_slot, named_slot}
use Rattle.price_checker.proofs.last_places.LastPlaces.at_start.Goals as goal
use Rattle.price_checker.proofs.last_places.LastPlaces.at_start.Goals.{in-Some, in_default}

pub loop-index-preserved : goal.loop-index-preserved
loop-index-preserved c =
    let i = c.loop-index.index in
    let slots = slots_held c.args.held in
    let before = c.loop-index.last_places in
    let first : Option ℕ = Some 0 in
    let below : i < length slots = omega arith in
    elim c.match-name.branch [
      | in-Some w ↦
          let n : List ℕ = w.in-Some.name.now in
          let is : get_or slots i None ≡ Some n = sym c.name.ensures ∙ search rules in
          let after : (name : List ℕ) → place_of w.insert.new.self name ≡ cond (is_same_name n name) first (place_of before name) =
          λ name. w.insert.ensures.after name ∙ ap (λ (m : List ℕ). cond (is_same_name m name) first (place_of before name)) w.as_slice.ensures.bytes in
          let fewer : length w.insert.new.self ≤ i + 1 = omega arith in
          record {
            few = subst (λ (ls : List LastPlace). length ls ≤ i + 1) (sym w.last_places-is) fewer;
            last = λ name.
                ap (λ (ls : List LastPlace). place_of ls name) w.last_places-is
                ∙ after name
                ∙ ap (λ (o : Option ℕ). cond (is_same_name n name) first o) (c.loop-index.invariant.last name)
                ∙ sym (named_slot slots i n below is name);
          }
      | in_default w ↦
          let is : get_or slots i None ≡ None = sym c.name.ensures ∙ search rules in
          let fewer : length before ≤ i + 1 = omega arith in
          record {
            few = subst (λ (ls : List LastPlace). length ls ≤ i + 1) (sym w.last_places-is) fewer;
            last = λ name.
                ap (λ (ls : List LastPlace). place_of ls name) w.last_places-is
                ∙ c.loop-index.invariant.last name
                ∙ sym (empty_slot slots i below is name);
          }
    ]

pub returns-clause-last : goal.returns-clause-last
returns-clause-last c = λ name.
    let slots = slots_held c.args.held in
    let all : take c.loop-index.index slots ≡ slots = take_all c.loop-index.index slots (omega arith) in
    c.loop-index.invariant.last name
    ∙ ap (λ (xs : List (Option (List ℕ))). (at_start (names_in xs)).last name) all
    ∙ ap (λ (ns : List (List ℕ)). (at_start ns).last name) (all_held c.args.held)
