-- The places of links: each link begins before it ends, and ends at the place of its own request.
use Rattle.std.proofs.Common.{◌≡◌, ℕ, zero, suc, ◌+◌, ◌<◌, ◌≤◌, Bool, true, false, ◌&&◌, cond, eqb, ltb, List, [], ◌∷◌, ◌++◌, length, get_or, Option, Some, None, refl, sym, ap, ◌∙◌, subst, arith, append_assoc}
use Rattle.std.specs.List.{AllByRecursion, list_any}
use Rattle.std.proofs.lemmas.Bool.Decides.{nat_tests}
use Rattle.table_types.specs.Rosters.{is_same_name}
use Rattle.known_state.specs.Requests.{Asked}
use Rattle.known_state.specs.Plans.{Asking, at_start, after_request, after_requests, Link, link_of, links_from, links, AreLinked, kept_over, kept_from, kept_to}

-- ---- requests one after another

pub place-after : (asking : Asking) (rs : List Asked) → (after_requests asking rs).place ≡ asking.place + length rs
place-after asking [] = omega arith
place-after asking (r ∷ rs) = let later = place-after (after_request asking r) rs in omega arith

pub after-append : (asking : Asking) (rs more : List Asked) → after_requests asking (rs ++ more) ≡ after_requests (after_requests asking rs) more
after-append asking [] more = refl
after-append asking (r ∷ rs) more = after-append (after_request asking r) rs more

pub links-append : (asking : Asking) (rs more : List Asked) (keep marks : List Bool) → length keep ≡ length rs → links_from asking (rs ++ more) (keep ++ marks) ≡ links_from asking rs keep ++ links_from (after_requests asking rs) more marks
links-append asking [] more [] marks same = refl
links-append asking [] more (k ∷ keep) marks same = absurd (omega arith)
links-append asking (r ∷ rs) more [] marks same = absurd (omega arith)
links-append asking (r ∷ rs) more (k ∷ keep) marks same =
    ap (λ (ls : List Link). link_of (asking.last r.name) (asking.place + 1) r k ++ ls) (links-append (after_request asking r) rs more keep marks (omega arith))
    ∙ sym (append_assoc (link_of (asking.last r.name) (asking.place + 1) r k) (links_from (after_request asking r) rs keep) (links_from (after_requests (after_request asking r) rs) more marks))

append-none : (ls : List Link) → ls ++ [] ≡ ls
append-none [] = refl
append-none (l ∷ ls) = ap (λ (x : List Link). l ∷ x) (append-none ls)

-- one more request
pub last_more : (held : List (List ℕ)) (rs : List Asked) (r : Asked) (name : List ℕ) → (after_requests (at_start held) (rs ++ r ∷ [])).last name ≡ cond (is_same_name r.name name) (Some (length rs + 1)) ((after_requests (at_start held) rs).last name)
last_more held rs r name =
    let at : (after_requests (at_start held) rs).place ≡ length rs = omega (arith, place-after (at_start held) rs) in
    ap (λ (x : Asking). x.last name) (after-append (at_start held) rs (r ∷ []))
    ∙ ap (λ (n : ℕ). cond (is_same_name r.name name) (Some (n + 1)) ((after_requests (at_start held) rs).last name)) at

pub links_more : (held : List (List ℕ)) (rs : List Asked) (r : Asked) (keep : List Bool) (kept : Bool) → length keep ≡ length rs → links held (rs ++ r ∷ []) (keep ++ kept ∷ []) ≡ links held rs keep ++ link_of ((after_requests (at_start held) rs).last r.name) (length rs + 1) r kept
links_more held rs r keep kept same =
    let at : (after_requests (at_start held) rs).place ≡ length rs = omega (arith, place-after (at_start held) rs) in
    links-append (at_start held) rs (r ∷ []) keep (kept ∷ []) same
    ∙ ap (λ (ls : List Link). links held rs keep ++ ls) (append-none (link_of ((after_requests (at_start held) rs).last r.name) ((after_requests (at_start held) rs).place + 1) r kept))
    ∙ ap (λ (n : ℕ). links held rs keep ++ link_of ((after_requests (at_start held) rs).last r.name) (n + 1) r kept) at

-- ---- links go forward

-- a link begins at a place before the one where it ends, which is one of the first n
abbrev pub IsForward : ℕ → Link → Type 0
IsForward n l = (l.from < l.to) × (l.to ≤ n)

-- no name was last requested at a place to come
abbrev pub AreBefore : Asking → Type 0
AreBefore asking = (name : List ℕ) (from : ℕ) → asking.last name ≡ Some from → from ≤ asking.place

pub before-start : (held : List (List ℕ)) → AreBefore (at_start held)
before-start held = λ name from is. by (list_any (is_same_name name) held) from is
  where
    by : (b : Bool) (from : ℕ) → cond b (Some 0) None ≡ Some from → from ≤ 0
    by true from is = let same : 0 ≡ from = cc in omega arith
    by false from is = cc

before-next : (asking : Asking) (r : Asked) → AreBefore asking → AreBefore (after_request asking r)
before-next asking r before = λ name from is. by name from (is_same_name r.name name) is
  where
    by : (name : List ℕ) (from : ℕ) (b : Bool) → cond b (Some (asking.place + 1)) (asking.last name) ≡ Some from → from ≤ asking.place + 1
    by name from true is = let same : asking.place + 1 ≡ from = cc in omega arith
    by name from false is = let earlier = before name from is in omega arith

pub before-after : (asking : Asking) (rs : List Asked) → AreBefore asking → AreBefore (after_requests asking rs)
before-after asking [] before = before
before-after asking (r ∷ rs) before = before-after (after_request asking r) rs (before-next asking r before)

forward_all : (n : ℕ) (asking : Asking) (rs : List Asked) (keep : List Bool) → AreBefore asking → asking.place + length rs ≤ n → AllByRecursion (IsForward n) (links_from asking rs keep)
forward_all n asking [] keep before le = tt
forward_all n asking (r ∷ rs) [] before le = tt
forward_all n asking (r ∷ rs) (k ∷ keep) before le = by (asking.last r.name) refl (forward_all n (after_request asking r) rs keep (before-next asking r before) (omega arith))
  where
    by : (o : Option ℕ) → asking.last r.name ≡ o → AllByRecursion (IsForward n) (links_from (after_request asking r) rs keep) → AllByRecursion (IsForward n) (link_of o (asking.place + 1) r k ++ links_from (after_request asking r) rs keep)
    by None is later = later
    by (Some from) is later = let earlier = before r.name from is in ((omega arith, omega arith), later)

pub links_forward : (held : List (List ℕ)) (rs : List Asked) (keep : List Bool) → AllByRecursion (λ l. (l.from < l.to) × (l.to ≤ length rs)) (links held rs keep)
links_forward held rs keep = forward_all (length rs) (at_start held) rs keep (before-start held) (omega arith)

-- so no link passes over the start, the place of the last request, or a place after it
pub over_start : (ls : List Link) → kept_over ls 0 ≡ 0
over_start [] = refl
over_start (l ∷ ls) = let later = over_start ls in let here = by l.kept l.from (ltb 0 l.to) in omega arith
  where
    by : (kept : Bool) (from : ℕ) (b : Bool) → cond (kept && (ltb from 0 && b)) 1 0 ≡ zero
    by true from b = grind (arith, nat_tests)
    by false from b = refl

pub over_none : (n place : ℕ) (ls : List Link) → AllByRecursion (λ l. (l.from < l.to) × (l.to ≤ n)) ls → n ≤ place → kept_over ls place ≡ 0
over_none n place [] forward le = refl
over_none n place (l ∷ ls) forward le = let later = over_none n place ls forward.1 le in let here = by l.kept (ltb l.from place) l.to forward.0.1 in omega arith
  where
    by : (kept b : Bool) (to : ℕ) → to ≤ n → cond (kept && (b && ltb place to)) 1 0 ≡ zero
    by true true to small = grind (arith, nat_tests)
    by true false to small = refl
    by false b to small = refl

-- ---- from place to place

-- from a place to the next, the kept links that end at the next are dropped, and those that begin at the place are
-- added
pub over_next : (n place : ℕ) (ls : List Link) → AllByRecursion (λ l. (l.from < l.to) × (l.to ≤ n)) ls → kept_over ls (place + 1) + kept_to ls (place + 1) ≡ kept_over ls place + kept_from ls place
over_next n place [] forward = refl
over_next n place (l ∷ ls) forward =
    let later = over_next n place ls forward.1 in
    let here = by l.kept l.from l.to forward.0.0 in
    omega arith
  where
    by : (kept : Bool) (from to : ℕ) → from < to → cond (kept && (ltb from (place + 1) && ltb (place + 1) to)) 1 0 + cond (kept && eqb to (place + 1)) 1 0 ≡ cond (kept && (ltb from place && ltb place to)) 1 0 + cond (kept && eqb from place) 1 0
    by true from to lt = grind (arith, nat_tests)
    by false from to lt = refl

-- no link of later requests ends before them
none_to : (place : ℕ) (asking : Asking) (rs : List Asked) (keep : List Bool) → place ≤ asking.place → kept_to (links_from asking rs keep) place ≡ 0
none_to place asking [] keep le = refl
none_to place asking (r ∷ rs) [] le = refl
none_to place asking (r ∷ rs) (k ∷ keep) le = by (asking.last r.name) k (links_from (after_request asking r) rs keep) (none_to place (after_request asking r) rs keep (omega arith))
  where
    by : (o : Option ℕ) (k : Bool) (rest : List Link) → kept_to rest place ≡ 0 → kept_to (link_of o (asking.place + 1) r k ++ rest) place ≡ 0
    by None k rest later = later
    by (Some from) true rest later = grind (arith, nat_tests)
    by (Some from) false rest later = omega arith

unkept : (o : Option ℕ) (place : ℕ) (asking : Asking) (r : Asked) (rest : List Link) → kept_to (link_of o (asking.place + 1) r false ++ rest) place ≡ kept_to rest place
unkept None place asking r rest = refl
unkept (Some from) place asking r rest = omega arith

-- a request's own link ends at its place, if the request is kept
to_place : (i : ℕ) (asking : Asking) (rs : List Asked) (keep : List Bool) → length keep ≡ length rs → AreLinked asking rs keep → kept_to (links_from asking rs keep) (asking.place + 1 + i) ≡ cond (get_or keep i false) 1 0
to_place i asking [] [] same linked = refl
to_place i asking [] (k ∷ keep) same linked = absurd (omega arith)
to_place i asking (r ∷ rs) [] same linked = absurd (omega arith)
to_place zero asking (r ∷ rs) (true ∷ keep) same linked =
    let none = none_to (asking.place + 1 + 0) (after_request asking r) rs keep (omega arith) in
    rw linked.0.1 (first (links_from (after_request asking r) rs keep) none)
  where
    first : (rest : List Link) → kept_to rest (asking.place + 1 + 0) ≡ 0 → cond (eqb (asking.place + 1) (asking.place + 1 + 0)) 1 0 + kept_to rest (asking.place + 1 + 0) ≡ 1
    first rest none = grind (arith, nat_tests)
to_place zero asking (r ∷ rs) (false ∷ keep) same linked = unkept (asking.last r.name) (asking.place + 1 + 0) asking r (links_from (after_request asking r) rs keep) ∙ none_to (asking.place + 1 + 0) (after_request asking r) rs keep (omega arith)
to_place (suc i) asking (r ∷ rs) (true ∷ keep) same linked =
    let later = to_place i (after_request asking r) rs keep (omega arith) linked.1 in
    let at : asking.place + 1 + 1 + i ≡ asking.place + 1 + suc i = omega arith in
    rw linked.0.1 (more (links_from (after_request asking r) rs keep) (subst (λ (q : ℕ). kept_to (links_from (after_request asking r) rs keep) q ≡ cond (get_or keep i false) 1 0) at later))
  where
    more : (rest : List Link) → kept_to rest (asking.place + 1 + suc i) ≡ cond (get_or keep i false) 1 0 → cond (eqb (asking.place + 1) (asking.place + 1 + suc i)) 1 0 + kept_to rest (asking.place + 1 + suc i) ≡ cond (get_or keep i false) 1 0
    more rest later = grind (arith, nat_tests)
to_place (suc i) asking (r ∷ rs) (false ∷ keep) same linked =
    let later = to_place i (after_request asking r) rs keep (omega arith) linked in
    let at : asking.place + 1 + 1 + i ≡ asking.place + 1 + suc i = omega arith in
    unkept (asking.last r.name) (asking.place + 1 + suc i) asking r (links_from (after_request asking r) rs keep) ∙ subst (λ (q : ℕ). kept_to (links_from (after_request asking r) rs keep) q ≡ cond (get_or keep i false) 1 0) at later

pub kept_ends : (held : List (List ℕ)) (rs : List Asked) (keep : List Bool) (place : ℕ) → length keep ≡ length rs → AreLinked (at_start held) rs keep → kept_to (links held rs keep) (place + 1) ≡ cond (get_or keep place false) 1 0
kept_ends held rs keep place same linked =
    let at : 0 + 1 + place ≡ place + 1 = omega arith in
    subst (λ (q : ℕ). kept_to (links held rs keep) q ≡ cond (get_or keep place false) 1 0) at (to_place place (at_start held) rs keep same linked)
