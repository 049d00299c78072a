-- Links are found one request after another.
use Rattle.std.proofs.Common.{◌≡◌, ℕ, ◌+◌, ◌<◌, ◌≤◌, ◌↔◌, IsTrue, Bool, true, false, not, List, ◌∷◌, ◌++◌, length, get_or, take, drop, Option, Some, None, refl, sym, ap, ◌∙◌, subst, append_assoc, arith}
use Rattle.std.specs.Prelude.{is_some, option_to_list, ◌||◌, ◌&&◌}
use Rattle.std.proofs.lemmas.List.{drop_more}
use Rattle.known_state.specs.Requests.{Asked}
use Rattle.known_state.specs.Plans.{Asking, Link, after_request, after_requests, link_of, links_from, AreLinked}
use Rattle.price_checker.proofs.LastPlaces.{after_requests-more, at_place}

-- the links of the requests from an index on
abbrev pub links_later : Asking → List Asked → List Bool → ℕ → List Link
links_later asking rs keep i = links_from (after_requests asking (take i rs)) (drop i rs) (drop i keep)

-- those of them that are kept have a link
abbrev pub AreLinkedLater : Asking → List Asked → List Bool → ℕ → Type 0
AreLinkedLater asking rs keep i = AreLinked (after_requests asking (take i rs)) (drop i rs) (drop i keep)

-- the request at an index, its mark, and where its name was requested last
pub record IsAt (asking : Asking) (rs : List Asked) (keep : List Bool) (i : ℕ) (r : Asked) (kept : Bool) (from : Option ℕ) : Type 0 where
  pub first : asking.place ≡ 0
  pub below : i < length rs
  pub long : length keep ≡ length rs
  pub request : r ≡ get_or rs i r
  pub mark : kept ≡ get_or keep i false
  pub last : from ≡ (after_requests asking (take i rs)).last r.name

-- the rest of a list begins with the element at its index
left_at : {X : Type 0} → (xs : List X) (i : ℕ) (x d : X) → i < length xs → x ≡ get_or xs i d → drop i xs ≡ x ∷ drop (i + 1) xs
left_at xs i x d below is = drop_more xs i d below ∙ ap (λ y. y ∷ drop (i + 1) xs) (sym is)

-- the links from an index on are the link of its request and those after it
links-next : (asking : Asking) (rs : List Asked) (keep : List Bool) (i : ℕ) (r : Asked) (kept : Bool) (from : Option ℕ) → IsAt asking rs keep i r kept from → links_later asking rs keep i ≡ link_of from (i + 1) r kept ++ links_later asking rs keep (i + 1)
links-next asking rs keep i r kept from is =
    let here : (after_requests asking (take i rs)).place ≡ i = at_place asking rs i is.first (omega (arith, is.below)) in
    let before = after_requests asking (take i rs) in
    ap (λ (l : List Asked). links_from before l (drop i keep)) (left_at rs i r r is.below is.request)
    ∙ ap (λ (l : List Bool). links_from before (r ∷ drop (i + 1) rs) l) (left_at keep i kept false (omega (arith, is.below, is.long)) is.mark)
    ∙ ap (λ (o : Option ℕ). link_of o (before.place + 1) r kept ++ links_from (after_request before r) (drop (i + 1) rs) (drop (i + 1) keep)) (sym is.last)
    ∙ ap (λ (n : ℕ). link_of from (n + 1) r kept ++ links_from (after_request before r) (drop (i + 1) rs) (drop (i + 1) keep)) here
    ∙ ap (λ (a : Asking). link_of from (i + 1) r kept ++ links_from a (drop (i + 1) rs) (drop (i + 1) keep)) (sym (after_requests-more asking rs i r is.below is.request))

-- ---- whether the kept requests are linked

linked_on : (asking : Asking) (r : Asked) (rs : List Asked) (kept : Bool) (keep : List Bool) (from : Option ℕ) → from ≡ asking.last r.name → AreLinked asking (r ∷ rs) (kept ∷ keep) → ((is_some from || not kept) ≡ true) × AreLinked (after_request asking r) rs keep
linked_on asking r rs true keep (Some from) is (one, others) = (refl, others)
linked_on asking r rs false keep (Some from) is linked = (refl, linked)
linked_on asking r rs false keep None is linked = (refl, linked)
linked_on asking r rs true keep None is ((from, one), others) = let bad : None ≡ Some from = is ∙ one in absurd (cc)

linked_back : (asking : Asking) (r : Asked) (rs : List Asked) (kept : Bool) (keep : List Bool) (from : Option ℕ) → from ≡ asking.last r.name → (is_some from || not kept) ≡ true → AreLinked (after_request asking r) rs keep → AreLinked asking (r ∷ rs) (kept ∷ keep)
linked_back asking r rs false keep from is may others = others
linked_back asking r rs true keep (Some from) is may others = ((from, sym is), others)
linked_back asking r rs true keep None is may others = absurd (cc)

-- whether the requests from an index on are linked, given the request there and those after it
linked-next : (asking : Asking) (rs : List Asked) (keep : List Bool) (i : ℕ) (r : Asked) (kept : Bool) (from : Option ℕ) → IsAt asking rs keep i r kept from → AreLinkedLater asking rs keep i ↔ (((is_some from || not kept) ≡ true) × AreLinkedLater asking rs keep (i + 1))
linked-next asking rs keep i r kept from is =
    let before = after_requests asking (take i rs) in
    let later : after_requests asking (take (i + 1) rs) ≡ after_request before r = after_requests-more asking rs i r is.below is.request in
    let requests : drop i rs ≡ r ∷ drop (i + 1) rs = left_at rs i r r is.below is.request in
    let marks : drop i keep ≡ kept ∷ drop (i + 1) keep = left_at keep i kept false (omega (arith, is.below, is.long)) is.mark in (
      λ all.
          let on = linked_on before r (drop (i + 1) rs) kept (drop (i + 1) keep) from is.last
          (subst (λ (l : List Bool). AreLinked before (r ∷ drop (i + 1) rs) l) marks (subst (λ (l : List Asked). AreLinked before l (drop i keep)) requests all)) in
          (on.0, subst (λ (a : Asking). AreLinked a (drop (i + 1) rs) (drop (i + 1) keep)) (sym later) on.1),
      λ both.
          subst (λ (l : List Asked). AreLinked before l (drop i keep)) (sym requests)
          (subst (λ (l : List Bool). AreLinked before (r ∷ drop (i + 1) rs) l) (sym marks)
          (linked_back before r (drop (i + 1) rs) kept (drop (i + 1) keep) from is.last both.0 (subst (λ (a : Asking). AreLinked a (drop (i + 1) rs) (drop (i + 1) keep)) later both.1))),
    )

and_both : (a b : Bool) → (a && b) ≡ true → (a ≡ true) × (b ≡ true)
and_both true b both = (refl, both)
and_both false b both = absurd (cc)

both_and : (a b : Bool) → a ≡ true → b ≡ true → (a && b) ≡ true
both_and true b one other = other
both_and false b one other = absurd (cc)

-- one request later, it is still known whether all are linked
pub linked-more : (asking : Asking) (rs : List Asked) (keep : List Bool) (i : ℕ) (r : Asked) (kept : Bool) (from : Option ℕ) (linked : Bool) → IsAt asking rs keep i r kept from
    → (IsTrue linked × AreLinkedLater asking rs keep i) ↔ AreLinked asking rs keep → (IsTrue (linked && (is_some from || not kept)) × AreLinkedLater asking rs keep (i + 1)) ↔ AreLinked asking rs keep
linked-more asking rs keep i r kept from linked is so_far =
    let next = linked-next asking rs keep i r kept from is in (
      λ later. let both = and_both linked (is_some from || not kept) later.0 in so_far.0 (both.0, next.1 (both.1, later.1)),
      λ all. let now = so_far.1 all in let later = next.0 now.1 in (both_and linked (is_some from || not kept) now.0 later.0, later.1),
    )

-- and the links found are those of the earlier requests and that of the request, if it has one
pub links-more : (asking : Asking) (rs : List Asked) (keep : List Bool) (i : ℕ) (r : Asked) (kept : Bool) (from : Option ℕ) (found one : List Link) → IsAt asking rs keep i r kept from
    → one ≡ link_of from (i + 1) r kept → found ++ links_later asking rs keep i ≡ links_from asking rs keep → (found ++ one) ++ links_later asking rs keep (i + 1) ≡ links_from asking rs keep
links-more asking rs keep i r kept from found one is one_is so_far =
    append_assoc found one (links_later asking rs keep (i + 1))
    ∙ ap (λ (l : List Link). found ++ (l ++ links_later asking rs keep (i + 1))) one_is
    ∙ ap (λ (l : List Link). found ++ l) (sym (links-next asking rs keep i r kept from is))
    ∙ so_far

-- a request has at most one link
pub one_at_most : (link : Option Link) → length (option_to_list link) ≤ 1
one_at_most None = omega arith
one_at_most (Some link) = omega arith
