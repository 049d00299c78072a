use Rattle.std.proofs.Common.{◌≡◌, ◌≤◌, ℕ, List, length, take}
use Rattle.known_state.specs.Plans.{at_start, names_in}
use Rattle.price_checker.specs.LastPlaces.{place_of}
use Rattle.price_checker.specs.NamesHeld.{slots_held}
use Rattle.price_checker.proofs.last_places.LastPlaces.at_start.Given as goal

abbrev pub invariant-loop-index : goal.invariant-loop-index
invariant-loop-index l = record {
  few : length l.last_places ≤ l.index;
  last : (name : List ℕ) → place_of l.last_places name ≡ (at_start (names_in (take l.index (slots_held l.held)))).last name;
}
