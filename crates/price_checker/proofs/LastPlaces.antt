-- The place at which a name was last requested, for requests one after another.
use Rattle.std.proofs.Common.{◌≡◌, ℕ, ◌+◌, ◌<◌, ◌≤◌, cond, List, [], ◌∷◌, ◌++◌, length, get_or, take, Option, Some, refl, sym, ap, ◌∙◌, arith}
use Rattle.std.proofs.lemmas.List.{take_more, length-take}
use Rattle.table_types.specs.Rosters.{is_same_name}
use Rattle.known_state.specs.Requests.{Asked}
use Rattle.known_state.specs.Plans.{Asking, at_start, after_request, after_requests}
use Rattle.price_checker.specs.declared.last_places.LastPlace.{LastPlace}
use Rattle.price_checker.specs.LastPlaces.{place_of}
use Rattle.known_state.proofs.LinkPlaces.{after-append, place-after}

-- one more request
pub after_requests-more : (asking : Asking) (rs : List Asked) (i : ℕ) (r : Asked) → i < length rs → r ≡ get_or rs i r → after_requests asking (take (i + 1) rs) ≡ after_request (after_requests asking (take i rs)) r
after_requests-more asking rs i r below is =
    let more : take (i + 1) rs ≡ take i rs ++ r ∷ [] = take_more rs i r below ∙ ap (λ (x : Asked). take i rs ++ x ∷ []) (sym is) in
    ap (after_requests asking) more ∙ after-append asking (take i rs) (r ∷ [])

-- at a place, as many requests were made as its number
pub at_place : (asking : Asking) (rs : List Asked) (place : ℕ) → asking.place ≡ 0 → place ≤ length rs → (after_requests asking (take place rs)).place ≡ place
at_place asking rs place first within = omega (arith, place-after asking (take place rs), length-take place rs)

-- the last places of names are known one request later, if the new request's place is the last of its name
pub last_place-more : (held : List (List ℕ)) (rs : List Asked) (i : ℕ) (r : Asked) (places later : List LastPlace) → i < length rs → r ≡ get_or rs i r
    → ((other : List ℕ) → place_of later other ≡ cond (is_same_name r.name other) (Some (i + 1)) (place_of places other))
    → ((name : List ℕ) → place_of places name ≡ (after_requests (at_start held) (take i rs)).last name)
    → (name : List ℕ) → place_of later name ≡ (after_requests (at_start held) (take (i + 1) rs)).last name
last_place-more held rs i r places later below is moved so_far name =
    let before = after_requests (at_start held) (take i rs) in
    let here : before.place ≡ i = at_place (at_start held) rs i refl (omega arith) in
    moved name
    ∙ ap (λ (o : Option ℕ). cond (is_same_name r.name name) (Some (i + 1)) o) (so_far name)
    ∙ ap (λ (n : ℕ). cond (is_same_name r.name name) (Some (n + 1)) (before.last name)) (sym here)
    ∙ ap (λ (a : Asking). a.last name) (sym (after_requests-more (at_start held) rs i r below is))
