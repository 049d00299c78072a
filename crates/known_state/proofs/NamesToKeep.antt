-- At a request that is written, the names that must stay in slots are no more than the kept links over its place.
use Rattle.std.proofs.Common.{◌≡◌, ℕ, ◌+◌, ◌≤◌, Bool, true, false, ◌||◌, cond, List, [], ◌∷◌, ◌++◌, length, Option, Some, None, refl, sym, ap, ◌∙◌, subst, arith}
use Rattle.std.specs.Prelude.{is_some}
use Rattle.std.specs.List.{AllByRecursion, IsDistinct}
use Rattle.std.specs.Cmp.Lexicographic.{same_text}
use Rattle.std.proofs.lemmas.Bool.Decides.{nat_tests}
use Rattle.std.proofs.lemmas.Cmp.{nat_list_eq_equiv}
use Rattle.std.proofs.lemmas.Map.Made.{length-le_from_is_member}
use Rattle.table_types.specs.Rosters.{is_same_name}
use Rattle.known_state.specs.Requests.{Asked}
use Rattle.known_state.specs.Plans.{Asking, at_start, after_request, after_requests, Link, links_from, links, kept_over, keeps_next}
use Rattle.known_state.proofs.SavingsAreBounded.{kept_over-append}
use Rattle.known_state.proofs.LinkPlaces.{AreBefore, before-start, before-after, place-after, links-append, links_forward, over_none}
use Rattle.known_state.proofs.SlotsNeeded.{is_among, is_before, names_over, as_many, or_first, or_second, turned, ends_here}

-- a name that was last requested before a place, and whose next request is kept, is one of those over the place
among_over : (place : ℕ) (asking : Asking) (rs : List Asked) (keep : List Bool) (name : List ℕ) → place ≤ asking.place → keeps_next name rs keep ≡ true → is_before place (asking.last name) ≡ true → is_among name (names_over place asking rs keep) ≡ true
among_over place asking [] keep name le next before = cc
among_over place asking (r ∷ rs) [] name le next before = cc
among_over place asking (r ∷ rs) (k ∷ keep) name le next before = by (is_same_name r.name name) refl k next (λ apart more. among_over place (after_request asking r) rs keep name (omega arith) more (rw apart before))
  where
    added : (b : Bool) → is_among name (names_over place (after_request asking r) rs keep) ≡ true → is_among name (cond b (r.name ∷ names_over place (after_request asking r) rs keep) (names_over place (after_request asking r) rs keep)) ≡ true
    added true later = or_second (is_same_name name r.name) (is_among name (names_over place (after_request asking r) rs keep)) later
    added false later = later

    by : (b : Bool) → is_same_name r.name name ≡ b → (k : Bool) → cond b k (keeps_next name rs keep) ≡ true → (is_same_name r.name name ≡ false → keeps_next name rs keep ≡ true → is_among name (names_over place (after_request asking r) rs keep) ≡ true) → is_among name (names_over place asking (r ∷ rs) (k ∷ keep)) ≡ true
    by true same true next later =
        let is : r.name ≡ name = same_text r.name name (sym same) in
        let first : is_before place (asking.last r.name) ≡ true = subst (λ (n : List ℕ). is_before place (asking.last n) ≡ true) (sym is) before in
        rw first (or_first (is_same_name name r.name) (is_among name (names_over place (after_request asking r) rs keep)) (turned name r.name ∙ same))
    by true same false next later = cc
    by false apart true next later = added (is_before place (asking.last r.name)) (later apart next)
    by false apart false next later = later apart next

-- what holds of all names holds of each of them
of_among : (p : List ℕ → Type 0) (names : List (List ℕ)) (name : List ℕ) → AllByRecursion p names → is_among name names ≡ true → p name
of_among p [] name all h = cc
of_among p (x ∷ xs) name all h = by (is_same_name name x) refl h (of_among p xs name all.1)
  where
    by : (b : Bool) → is_same_name name x ≡ b → (b || is_among name xs) ≡ true → (is_among name xs ≡ true → p name) → p name
    by true same h later = subst p (sym (same_text name x (sym same))) all.0
    by false apart h later = later h

-- a name that stays: it was requested or has been in a slot since the start, and its next request is kept
abbrev Stays : Asking → List Asked → List Bool → List ℕ → Type 0
Stays asking rs keep name = (is_some (asking.last name) ≡ true) × (keeps_next name rs keep ≡ true)

names_stay : (asking : Asking) (r : Asked) (rs : List Asked) (keep : List Bool) (names : List (List ℕ)) → AreBefore asking → IsDistinct is_same_name names → AllByRecursion (Stays asking (r ∷ rs) (false ∷ keep)) names → length names ≤ kept_over (links_from (after_request asking r) rs keep) (asking.place + 1)
names_stay asking r rs keep names before apart stay =
    let fewer = length-le_from_is_member nat_list_eq_equiv names (names_over (asking.place + 1) (after_request asking r) rs keep) apart (λ name h. over name (of_among (Stays asking (r ∷ rs) (false ∷ keep)) names name stay h)) in
    omega (arith, as_many (asking.place + 1) (after_request asking r) rs keep (omega arith))
  where
    requested : (name : List ℕ) (o : Option ℕ) → asking.last name ≡ o → is_some o ≡ true → is_before (asking.place + 1) o ≡ true
    requested name None is some = cc
    requested name (Some from) is some = let earlier = before name from is in grind (arith, nat_tests)

    by : (name : List ℕ) (b : Bool) → is_same_name r.name name ≡ b → cond b false (keeps_next name rs keep) ≡ true → (is_same_name r.name name ≡ false) × (keeps_next name rs keep ≡ true)
    by name true is next = cc
    by name false is next = (is, next)

    over : (name : List ℕ) → Stays asking (r ∷ rs) (false ∷ keep) name → is_among name (names_over (asking.place + 1) (after_request asking r) rs keep) ≡ true
    over name (some, next) =
        let later = by name (is_same_name r.name name) refl next in
        among_over (asking.place + 1) (after_request asking r) rs keep name (omega arith) later.1 (rw later.0 (requested name (asking.last name) refl some))

-- so it is one of those over the place of that request, in all the links
pub names_to_keep : (held : List (List ℕ)) (done rest : List Asked) (r : Asked) (kept keep : List Bool) (names : List (List ℕ)) → length kept ≡ length done → IsDistinct is_same_name names
    → AllByRecursion (λ name. (is_some ((after_requests (at_start held) done).last name) ≡ true) × (keeps_next name (r ∷ rest) (false ∷ keep) ≡ true)) names
    → length names ≤ kept_over (links held (done ++ (r ∷ rest)) (kept ++ (false ∷ keep))) (length done + 1)
names_to_keep held done rest r kept keep names same apart stay =
    let asking : Asking = after_requests (at_start held) done in
    let at : asking.place ≡ length done = omega (arith, place-after (at_start held) done) in
    let fewer = names_stay asking r rest keep names (before-after (at_start held) done (before-start held)) apart stay in
    let parts : kept_over (links held (done ++ (r ∷ rest)) (kept ++ (false ∷ keep))) (length done + 1) ≡ kept_over (links held done kept ++ links_from asking (r ∷ rest) (false ∷ keep)) (length done + 1) = ap (λ (ls : List Link). kept_over ls (length done + 1)) (links-append (at_start held) done (r ∷ rest) kept (false ∷ keep) same) in
    let sums = kept_over-append (links held done kept) (links_from asking (r ∷ rest) (false ∷ keep)) (length done + 1) in
    let none = over_none (length done) (length done + 1) (links held done kept) (links_forward held done kept) (omega arith) in
    let own = ends_here (asking.last r.name) (length done + 1) (asking.place + 1) r false (links_from (after_request asking r) rest keep) (omega arith) in
    let moved : kept_over (links_from (after_request asking r) rest keep) (asking.place + 1) ≡ kept_over (links_from (after_request asking r) rest keep) (length done + 1) = ap (λ (n : ℕ). kept_over (links_from (after_request asking r) rest keep) (n + 1)) at in
    omega arith
