-- What links save, and the bound that prices prove.
use Rattle.std.proofs.Common.{◌≡◌, ℕ, zero, suc, ◌+◌, ◌-◌, ◌*◌, ◌<◌, ◌≤◌, Bool, true, false, ◌&&◌, cond, List, [], ◌∷◌, ◌++◌, length, get_or, take, drop, map, Option, Some, None, ◌⊎◌, inl, inr, refl, subst, ap, ◌∙◌, arith}
use Rattle.std.specs.List.{AllByRecursion}
use Rattle.std.proofs.lemmas.Bool.Decides.{nat_tests}
use Rattle.std.proofs.lemmas.Nat.{mul-le}
use Rattle.std.proofs.Math.Nat.{mul-add, mul_comm}
use Rattle.known_state.specs.Requests.{Asked, read_savings}
use Rattle.known_state.specs.Plans.{total, sum_of, Asking, at_start, after_request, Link, link_of, links_from, links, all_links, AreLinked, is_inside, kept_over, price_inside, kept_savings, bound, Plan, Accepts}

-- ---- sums over lists

pub total-append : {A : Type 0} (f : A → ℕ) (xs ys : List A) → total f (xs ++ ys) ≡ total f xs + total f ys
total-append f [] ys = omega arith
total-append f (x ∷ xs) ys = let later = total-append f xs ys in omega arith

-- what is kept over a place, for two lists of links
pub kept_over-append : (ls more : List Link) (place : ℕ) → kept_over (ls ++ more) place ≡ kept_over ls place + kept_over more place
kept_over-append ls more place = total-append (λ l. cond (l.kept && is_inside place l) 1 0) ls more

-- ---- the prices inside a link, place by place

-- the prices inside a link, from a place on
abbrev inside_from : ℕ → List ℕ → Link → ℕ
inside_from place [] l = 0
inside_from place (p ∷ ps) l = cond (is_inside place l) p 0 + inside_from (place + 1) ps l

-- the same, from a place at or after the link's start
begun : (ps : List ℕ) (k n : ℕ) (l : Link) → l.from ≤ k → l.to - 1 - k ≡ n → sum_of (take n ps) ≡ inside_from (k + 1) ps l
begun [] k zero l le is = refl
begun [] k (suc n) l le is = refl
begun (p ∷ ps) k zero l le is =
    let later = begun ps (k + 1) 0 l (omega arith) (omega arith) in
    grind (arith, nat_tests)
begun (p ∷ ps) k (suc n) l le is =
    let later = begun ps (k + 1) n l (omega arith) (omega arith) in
    grind (arith, nat_tests)

-- the same, from a place at or before the link's start
ahead : (ps : List ℕ) (k n : ℕ) (l : Link) → l.from ≡ k + n → sum_of (take (l.to - 1 - l.from) (drop n ps)) ≡ inside_from (k + 1) ps l
ahead ps k zero l is = begun ps k (l.to - 1 - l.from) l (omega arith) (omega arith)
ahead [] k (suc n) l is = begun [] l.from (l.to - 1 - l.from) l (omega arith) refl
ahead (p ∷ ps) k (suc n) l is =
    let later = ahead ps (k + 1) n l (omega arith) in
    grind (arith, nat_tests)

pub price_by_place : (prices : List ℕ) (l : Link) → price_inside prices l ≡ inside_from 1 prices l
price_by_place prices l = ahead prices 0 l.from l (omega arith)

-- ---- no choice of links saves more than the bound

-- the prices inside the kept links, from a place on, place by place
abbrev kept_prices : ℕ → List ℕ → List Link → ℕ
kept_prices place [] ls = 0
kept_prices place (p ∷ ps) ls = p * kept_over ls place + kept_prices (place + 1) ps ls

-- one more place adds its price once for each kept link that it is inside
one_place : (place p : ℕ) (f : Link → ℕ) (ls : List Link) → total (λ l. cond l.kept (cond (is_inside place l) p 0 + f l) 0) ls ≡ p * kept_over ls place + total (λ l. cond l.kept (f l) 0) ls
one_place place p f [] = omega arith
one_place place p f (l ∷ ls) =
    let later = one_place place p f ls in
    let here = by l.kept (is_inside place l) (f l) in
    let parts = mul-add p (cond (l.kept && is_inside place l) 1 0) (kept_over ls place) in
    omega arith
  where
    by : (kept inside : Bool) (x : ℕ) → cond kept (cond inside p 0 + x) 0 ≡ p * cond (kept && inside) 1 0 + cond kept x 0
    by true true x = omega arith
    by true false x = omega arith
    by false inside x = omega arith

none_inside : (ls : List Link) → total (λ l. cond l.kept 0 0) ls ≡ 0
none_inside [] = refl
none_inside (l ∷ ls) = let later = none_inside ls in let here = by l.kept in omega arith
  where
    by : (kept : Bool) → cond kept zero zero ≡ zero
    by true = refl
    by false = refl

by_places : (place : ℕ) (ps : List ℕ) (ls : List Link) → total (λ l. cond l.kept (inside_from place ps l) 0) ls ≡ kept_prices place ps ls
by_places place [] ls = none_inside ls
by_places place (p ∷ ps) ls = one_place place p (λ l. inside_from (place + 1) ps l) ls ∙ ap (λ (n : ℕ). p * kept_over ls place + n) (by_places (place + 1) ps ls)

-- at most `n` times each price, if no place is inside more than `n` kept links
at_most : (n place : ℕ) (ps : List ℕ) (ls : List Link) → ((q : ℕ) → kept_over ls q ≤ n) → kept_prices place ps ls ≤ n * sum_of ps
at_most n place [] ls room = omega arith
at_most n place (p ∷ ps) ls room =
    let later = at_most n (place + 1) ps ls room in
    let here : kept_over ls place * p ≤ n * p = mul-le (kept_over ls place) p n p (room place) (omega arith) in
    let parts = mul-add n p (sum_of ps) in
    omega arith

-- a kept link saves at most the prices inside it plus what it saves above them
kept_or_above : (prices : List ℕ) (ls : List Link) → kept_savings ls ≤ total (λ l. cond l.kept (inside_from 1 prices l) 0) ls + total (λ l. l.saving - price_inside prices l) ls
kept_or_above prices [] = omega arith
kept_or_above prices (l ∷ ls) =
    let later = kept_or_above prices ls in
    let here = by l.kept l.saving (price_inside prices l) (inside_from 1 prices l) (price_by_place prices l) in
    omega arith
  where
    by : (kept : Bool) (saving a b : ℕ) → a ≡ b → cond kept saving 0 ≤ cond kept b 0 + (saving - a)
    by true saving a b same = omega arith
    by false saving a b same = omega arith

links_bounded : (n : ℕ) (prices : List ℕ) (ls : List Link) → ((place : ℕ) → kept_over ls place ≤ n) → kept_savings ls ≤ n * sum_of prices + total (λ l. l.saving - price_inside prices l) ls
links_bounded n prices ls room =
    let parts = kept_or_above prices ls in
    let swapped = by_places 1 prices ls in
    let most = at_most n 1 prices ls room in
    omega arith

-- ---- prices that fit are tight

-- if each place with a price is inside `n` kept links
each_full : (n place : ℕ) (ps : List ℕ) (ls : List Link) → ((i : ℕ) → (get_or ps i 0 ≡ 0) ⊎ (kept_over ls (place + i) ≡ n)) → kept_prices place ps ls ≡ n * sum_of ps
each_full n place [] ls are = omega arith
each_full n place (p ∷ ps) ls are =
    let later = each_full n (place + 1) ps ls (λ i. elim (are (suc i)) [ inl none ↦ inl none | inr over ↦ inr (subst (λ (q : ℕ). kept_over ls q ≡ n) (shifted i) over) ]) in
    let here = at_place (are 0) in
    let parts = mul-add n p (sum_of ps) in
    omega arith
  where
    shifted : (i : ℕ) → place + suc i ≡ place + 1 + i
    shifted i = omega arith

    at_place : ((p ≡ 0) ⊎ (kept_over ls (place + 0) ≡ n)) → p * kept_over ls place ≡ n * p
    at_place (inl none) = rw none (omega arith)
    at_place (inr over) =
        let same : kept_over ls place ≡ n = subst (λ (q : ℕ). kept_over ls q ≡ n) (omega arith) over in
        rw same (mul_comm p n)

-- if a kept link saves no less than the prices inside it, and any other link no more
well_priced : (prices : List ℕ) (ls : List Link) → AllByRecursion (λ l. (l.kept ≡ true → price_inside prices l ≤ l.saving) × (l.kept ≡ false → l.saving ≤ price_inside prices l)) ls → kept_savings ls ≡ total (λ l. cond l.kept (inside_from 1 prices l) 0) ls + total (λ l. l.saving - price_inside prices l) ls
well_priced prices [] well = omega arith
well_priced prices (l ∷ ls) well =
    let later = well_priced prices ls well.1 in
    let here = by l.kept l.saving (price_inside prices l) (inside_from 1 prices l) (price_by_place prices l) well.0 in
    omega arith
  where
    by : (kept : Bool) (saving a b : ℕ) → a ≡ b → (kept ≡ true → a ≤ saving) × (kept ≡ false → saving ≤ a) → cond kept saving 0 ≡ cond kept b 0 + (saving - a)
    by true saving a b same fit = let le = fit.0 refl in omega arith
    by false saving a b same fit = let le = fit.1 refl in omega arith

-- ---- the bound depends on the requests alone

-- what links save above prices, whichever are kept
pub above_alike : (prices : List ℕ) (asking : Asking) (rs : List Asked) (keep marks : List Bool) → length keep ≡ length rs → length marks ≡ length rs → total (λ l. l.saving - price_inside prices l) (links_from asking rs keep) ≡ total (λ l. l.saving - price_inside prices l) (links_from asking rs marks)
above_alike prices asking [] keep marks as_many so_many = refl
above_alike prices asking (r ∷ rs) [] marks as_many so_many = absurd (omega arith)
above_alike prices asking (r ∷ rs) (k ∷ keep) [] as_many so_many = absurd (omega arith)
above_alike prices asking (r ∷ rs) (k ∷ keep) (m ∷ marks) as_many so_many =
    let later = above_alike prices (after_request asking r) rs keep marks (omega arith) (omega arith) in
    by (asking.last r.name) (links_from (after_request asking r) rs keep) (links_from (after_request asking r) rs marks) later
  where
    by : (o : Option ℕ) (ls others : List Link) → total (λ l. l.saving - price_inside prices l) ls ≡ total (λ l. l.saving - price_inside prices l) others
        → total (λ l. l.saving - price_inside prices l) (link_of o (asking.place + 1) r k ++ ls) ≡ total (λ l. l.saving - price_inside prices l) (link_of o (asking.place + 1) r m ++ others)
    by None ls others same = same
    by (Some from) ls others same = omega arith

all_marked : (rs : List Asked) → length (map (λ r. true) rs) ≡ length rs
all_marked [] = refl
all_marked (r ∷ rs) = ap (λ (n : ℕ). suc n) (all_marked rs)

pub savings_bounded : (slots : ℕ) (held : List (List ℕ)) (rs : List Asked) (keep : List Bool) (prices : List ℕ) → length keep ≡ length rs → ((place : ℕ) → kept_over (links held rs keep) place ≤ slots - 1) → kept_savings (links held rs keep) ≤ bound slots (all_links held rs) prices
savings_bounded slots held rs keep prices as_many room =
    let most = links_bounded (slots - 1) prices (links held rs keep) room in
    let alike = above_alike prices (at_start held) rs keep (map (λ (r : Asked). true) rs) as_many (all_marked rs) in
    omega arith

pub tight : (slots : ℕ) (held : List (List ℕ)) (rs : List Asked) (keep : List Bool) (prices : List ℕ) → length keep ≡ length rs
    → ((place : ℕ) → (get_or prices place 0 ≡ 0) ⊎ (kept_over (links held rs keep) (place + 1) ≡ slots - 1))
    → AllByRecursion (λ l. (l.kept ≡ true → price_inside prices l ≤ l.saving) × (l.kept ≡ false → l.saving ≤ price_inside prices l)) (links held rs keep)
    → kept_savings (links held rs keep) ≡ bound slots (all_links held rs) prices
tight slots held rs keep prices as_many are well =
    let parts = well_priced prices (links held rs keep) well in
    let swapped = by_places 1 prices (links held rs keep) in
    let whole = each_full (slots - 1) 1 prices (links held rs keep) (λ i. elim (are i) [ inl none ↦ inl none | inr over ↦ inr (subst (λ (q : ℕ). kept_over (links held rs keep) q ≡ slots - 1) (turned i) over) ]) in
    let alike = above_alike prices (at_start held) rs keep (map (λ (r : Asked). true) rs) as_many (all_marked rs) in
    omega arith
  where
    turned : (i : ℕ) → i + 1 ≡ 1 + i
    turned i = omega arith

-- of two accepted plans, each saves the bound of its own prices, which is at least what the other saves
pub accepted_same : (slots : ℕ) (held : List (List ℕ)) (rs : List Asked) (one other : Plan) → Accepts slots held rs one → Accepts slots held rs other → kept_savings (links held rs one.keep) ≡ kept_savings (links held rs other.keep)
accepted_same slots held rs one other first second =
    omega (arith, first.tight, second.tight, savings_bounded slots held rs one.keep other.prices first.keep first.room, savings_bounded slots held rs other.keep one.prices second.keep second.room)

-- ---- reads save what kept links save

linked_savings : (asking : Asking) (rs : List Asked) (keep : List Bool) → AreLinked asking rs keep → read_savings rs keep ≡ kept_savings (links_from asking rs keep)
linked_savings asking [] keep linked = refl
linked_savings asking (r ∷ rs) [] linked = refl
linked_savings asking (r ∷ rs) (true ∷ keep) linked =
    let later = linked_savings (after_request asking r) rs keep linked.1 in
    rw linked.0.1 (omega arith)
linked_savings asking (r ∷ rs) (false ∷ keep) linked = linked_savings (after_request asking r) rs keep linked ∙ not_kept (asking.last r.name) (links_from (after_request asking r) rs keep)
  where
    not_kept : (o : Option ℕ) (ls : List Link) → kept_savings ls ≡ kept_savings (link_of o (asking.place + 1) r false ++ ls)
    not_kept None ls = refl
    not_kept (Some from) ls = omega arith

pub reads_save : (held : List (List ℕ)) (rs : List Asked) (keep : List Bool) → AreLinked (at_start held) rs keep → read_savings rs keep ≡ kept_savings (links held rs keep)
reads_save held rs keep linked = linked_savings (at_start held) rs keep linked

-- ---- prices as differences of height

-- each place's price is its height less the height of the place before
abbrev AreRises : List ℕ → (ℕ → ℕ) → Type 0
AreRises prices height = (i : ℕ) → i < length prices → height i + get_or prices i 0 ≡ height (suc i)

rise_from_first : (n : ℕ) (prices : List ℕ) (height : ℕ → ℕ) → AreRises prices height → n ≤ length prices → height 0 + sum_of (take n prices) ≡ height n
rise_from_first zero prices height rises le = omega arith
rise_from_first (suc n) [] height rises le = absurd (omega arith)
rise_from_first (suc n) (p ∷ ps) height rises le =
    let first = rises 0 (omega arith) in
    let later = rise_from_first n ps (λ i. height (suc i)) (λ i lt. rises (suc i) (omega arith)) (omega arith) in
    omega arith

rise_from : (k n : ℕ) (prices : List ℕ) (height : ℕ → ℕ) → AreRises prices height → k + n ≤ length prices → height k + sum_of (take n (drop k prices)) ≡ height (k + n)
rise_from zero n prices height rises le =
    let at : n ≡ 0 + n = omega arith in
    subst (λ (q : ℕ). height 0 + sum_of (take n prices) ≡ height q) at (rise_from_first n prices height rises (omega arith))
rise_from (suc k) n [] height rises le = absurd (omega arith)
rise_from (suc k) n (p ∷ ps) height rises le =
    let at : suc (k + n) ≡ suc k + n = omega arith in
    subst (λ (q : ℕ). height (suc k) + sum_of (take n (drop k ps)) ≡ height q) at (rise_from k n ps (λ i. height (suc i)) (λ i lt. rises (suc i) (omega arith)) (omega arith))

pub prices_rise : (prices : List ℕ) (height : ℕ → ℕ) (l : Link) → ((i : ℕ) → i < length prices → height i + get_or prices i 0 ≡ height (i + 1)) → l.from < l.to → l.to ≤ length prices + 1 → height l.from + price_inside prices l ≡ height (l.to - 1)
prices_rise prices height l rises forward within =
    let at : l.from + (l.to - 1 - l.from) ≡ l.to - 1 = omega arith in
    subst (λ (q : ℕ). height l.from + price_inside prices l ≡ height q) at (rise_from l.from (l.to - 1 - l.from) prices height (λ i lt. subst (λ (q : ℕ). height i + get_or prices i 0 ≡ height q) (next i) (rises i lt)) (omega arith))
  where
    next : (i : ℕ) → i + 1 ≡ suc i
    next i = omega arith
