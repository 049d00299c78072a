use Rattle.std.proofs.Common.{List, IfOk, IfErr, take, rules, subst}
use Rattle.std.proofs.lemmas.Fn.{always_returns_same}
use Rattle.price_checker.specs.declared.last_places.LastPlace.{LastPlace}
use Rattle.price_checker.specs.LastPlaces.{name_cmp, HasNameAt, IsGapFor}
use Rattle.price_checker.proofs.NamesInOrder.{found_here, gap_here}
use Rattle.price_checker.proofs.last_places.LastPlaces.find.Goals as goal

pub returns-clause-found : goal.returns-clause-found
returns-clause-found c =
    let name = c.args.name.now in
    let facts = c.binary_search_by.ensures in
    let by_name = facts.position (λ l. name_cmp l.name.now name) (always_returns_same _ _ _ (λ l r f k. search rules)) in
    subst (λ (ls : List LastPlace). IfOk c.binary_search_by.result (HasNameAt ls name)) c.self.view_is (found_here (take c.self.inside.count c.self.inside.places) name c.binary_search_by.result facts.bound by_name)

pub returns-clause-absent : goal.returns-clause-absent
returns-clause-absent c =
    let name = c.args.name.now in
    let facts = c.binary_search_by.ensures in
    let by_name = facts.position (λ l. name_cmp l.name.now name) (always_returns_same _ _ _ (λ l r f k. search rules)) in
    subst (λ (ls : List LastPlace). IfErr c.binary_search_by.result (IsGapFor ls name)) c.self.view_is (gap_here (take c.self.inside.count c.self.inside.places) name c.binary_search_by.result c.self.invariant.2 facts.bound by_name)
