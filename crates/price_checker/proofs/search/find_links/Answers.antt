use Rattle.std.proofs.Common.{◌≡◌, ℕ, cond, take, Some, ◌+◌, ◌≤◌, ◌↔◌, IsTrue, Bool, List, false, ◌++◌, length, get_or, option_to_list, refl, rules, subst, ap, ◌∙◌, sym, arith, length-append}
use Rattle.std.specs.Prelude.{◌&&◌}
use Rattle.table_types.specs.Rosters.{is_same_name}
use Rattle.known_state.specs.Plans.{Link, at_start, after_requests, link_of, AreLinked}
use Rattle.price_checker.specs.LastPlaces.{place_of}
use Rattle.price_checker.proofs.LastPlaces.{last_place-more}
use Rattle.price_checker.specs.NamesHeld.{names_held}
use Rattle.price_checker.proofs.LinksAreFound.{IsAt, links-more, linked-more, one_at_most, links_later, AreLinkedLater}
use Rattle.price_checker.proofs.search.find_links.Goals as goal
use Rattle.price_checker.proofs.search.find_links.Goals.{in-Some, in_default}

pub loop-index-preserved : goal.loop-index-preserved
loop-index-preserved c =
    let start = at_start (names_held c.args.held) in
    let i = c.loop-index.index in
    let r = c.index-requests-index.result in
    let kept : Bool = get_or c.args.keep.now i false in
    let from = c.insert-from.result in
    let held = names_held c.args.held in
    let before = c.loop-index.last_places in
    let name_is : c.as_slice.result.now ≡ r.name = c.as_slice.ensures.bytes ∙ c.name-name.ensures in
    let last : from ≡ (after_requests start (take i c.args.requests.now)).last r.name = c.insert-from.ensures.before ∙ ap (place_of before) name_is ∙ c.loop-index.invariant.last r.name in
    let moved : (other : List ℕ) → place_of c.insert-from.new.self other ≡ cond (is_same_name r.name other) (Some (i + 1)) (place_of before other) = λ other. c.insert-from.ensures.after other ∙ ap (λ (n : List ℕ). cond (is_same_name n other) (Some (i + 1)) (place_of before other)) name_is in
    let is : IsAt start c.args.requests.now c.args.keep.now i r kept from = record { first = refl; below = omega arith; long = c.requires.marks; request = c.index-requests-index.is; mark = refl; last = last } in
    let one = option_to_list c.link_of.result in
    let one_is : one ≡ link_of from (i + 1) r kept = search rules in
    let grown : c.match-link_of.links ≡ c.loop-index.links ++ one = elim c.match-link_of.branch [ in-Some w ↦ search rules | in_default w ↦ search rules ] in
    let places : length (c.loop-index.links ++ one) ≤ i + 1 = omega (arith, length-append c.loop-index.links one, one_at_most c.link_of.result, c.loop-index.invariant.count) in
    let linked = linked-more start c.args.requests.now c.args.keep.now i r kept from c.loop-index.linked is c.loop-index.invariant.linked in
    record {
      count = subst (λ (l : List Link). length l ≤ i + 1) (sym grown) places;
      found = ap (λ (l : List Link). l ++ links_later start c.args.requests.now c.args.keep.now (i + 1)) grown ∙ links-more start c.args.requests.now c.args.keep.now i r kept from c.loop-index.links one is one_is c.loop-index.invariant.found;
      few = omega arith;
      last = last_place-more held c.args.requests.now i r before c.insert-from.new.self (omega arith) c.index-requests-index.is moved c.loop-index.invariant.last;
      linked = subst (λ (b : Bool). (IsTrue (c.loop-index.linked && b) × AreLinkedLater start c.args.requests.now c.args.keep.now (i + 1)) ↔ AreLinked start c.args.requests.now c.args.keep.now) (sym c.is_linked-linked.ensures) linked;
    }
