use Rattle.std.proofs.Common.{◌≡◌, ℕ, List, ◌+◌, ◌≤◌, ◌↔◌, ◌++◌, IsTrue, length, take, drop}
use Rattle.known_state.specs.Plans.{at_start, after_requests, links, links_from, AreLinked}
use Rattle.price_checker.specs.LastPlaces.{place_of}
use Rattle.price_checker.specs.NamesHeld.{names_held}
use Rattle.price_checker.proofs.search.find_links.Given as goal

abbrev pub invariant-loop-index : goal.invariant-loop-index
invariant-loop-index l = record {
  count : length l.links ≤ l.index;
  found : l.links ++ links_from (after_requests (at_start (names_held l.held)) (take l.index l.requests)) (drop l.index l.requests) (drop l.index l.keep) ≡ links (names_held l.held) l.requests l.keep;
  few : length l.last_places ≤ 128 + l.index;
  last : (name : List ℕ) → place_of l.last_places name ≡ (after_requests (at_start (names_held l.held)) (take l.index l.requests)).last name;
  linked : (IsTrue l.linked × AreLinked (after_requests (at_start (names_held l.held)) (take l.index l.requests)) (drop l.index l.requests) (drop l.index l.keep)) ↔ AreLinked (at_start (names_held l.held)) l.requests l.keep;
}
