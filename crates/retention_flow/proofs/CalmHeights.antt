-- Calm heights: the sum of their prices, and what the kept links save at these prices.
use Rattle.std.proofs.Common.{◌≡◌, ℕ, zero, suc, ◌+◌, ◌-◌, ◌*◌, ◌<◌, ◌≤◌, ◌^◌, Bool, true, false, ◌⊎◌, cond, List, [], ◌∷◌, ◌++◌, length, map, take, drop, slice_index, Option, Some, None, refl, sym, ap, ◌∙◌, subst, inl, inr, arith}
use Rattle.std.specs.Prelude.{nat_lt, ◌&&◌}
use Rattle.std.specs.List.{AllByRecursion, list_any}
use Rattle.std.proofs.lemmas.Bool.{cases_lt}
use Rattle.std.proofs.lemmas.Bool.Decides.{nat_tests}
use Rattle.table_types.specs.Rosters.{is_same_name}
use Rattle.known_state.specs.Requests.{Asked}
use Rattle.known_state.specs.Plans.{Asking, Link, total, sum_of, at_start, after_request, link_of, links_from, links, all_links, kept_over, price_inside, kept_savings, bound, AreLinked, Accepts}
use Rattle.retention_flow.specs.declared.arcs.RequestArc.{RequestArc}
use Rattle.retention_flow.specs.Network.{IsArc, AreArcs, plan_of, marks, prices_of, IsCalmRise, IsCalmArc, AreCalmArcs, IsCalm, AreSpent}
use Rattle.retention_flow.proofs.WeighedPrices.{weighed, weighed_over, weighed-const}

-- ---- heights and their prices

abbrev Rises : List ℕ → Type 0
Rises hs = (i : ℕ) → suc i < length hs → slice_index hs i ≤ slice_index hs (suc i)

prices-length : (hs : List ℕ) → length (prices_of hs) ≡ length hs - 1
prices-length [] = omega arith
prices-length (h ∷ []) = omega arith
prices-length (h ∷ (k ∷ hs)) = omega (arith, prices-length (k ∷ hs))

price-at : (hs : List ℕ) (i : ℕ) → suc i < length hs → slice_index (prices_of hs) i ≡ slice_index hs (suc i) - slice_index hs i
price-at [] i below = absurd (omega arith)
price-at (h ∷ []) i below = absurd (omega arith)
price-at (h ∷ (k ∷ hs)) zero below = refl
price-at (h ∷ (k ∷ hs)) (suc i) below = price-at (k ∷ hs) i (omega arith)

rises_on : (h k : ℕ) (hs : List ℕ) → Rises (h ∷ (k ∷ hs)) → Rises (k ∷ hs)
rises_on h k hs rises = λ i below. rises (suc i) (omega arith)

first_sum : (n : ℕ) (hs : List ℕ) → Rises hs → n < length hs → sum_of (take n (prices_of hs)) + slice_index hs 0 ≡ slice_index hs n
first_sum zero hs rises below = omega arith
first_sum (suc n) [] rises below = absurd (omega arith)
first_sum (suc n) (h ∷ []) rises below = absurd (omega arith)
first_sum (suc n) (h ∷ (k ∷ hs)) rises below =
    let later : sum_of (take n (prices_of (k ∷ hs))) + k ≡ slice_index (k ∷ hs) n = first_sum n (k ∷ hs) (rises_on h k hs rises) (omega arith) in
    let up : h ≤ k = rises 0 (omega arith) in
    omega (arith, later, up)

-- from one node to a later one, the heights rise by the prices between them
inside_sum : (m n : ℕ) (hs : List ℕ) → Rises hs → m + n < length hs → sum_of (take n (drop m (prices_of hs))) + slice_index hs m ≡ slice_index hs (m + n)
inside_sum zero n hs rises below = let same : n ≡ 0 + n = omega arith in first_sum n hs rises (omega arith) ∙ ap (λ (i : ℕ). slice_index hs i) same
inside_sum (suc m) n [] rises below = absurd (omega arith)
inside_sum (suc m) n (h ∷ []) rises below = absurd (omega arith)
inside_sum (suc m) n (h ∷ (k ∷ hs)) rises below =
    let same : suc (m + n) ≡ suc m + n = omega arith in
    inside_sum m n (k ∷ hs) (rises_on h k hs rises) (omega arith) ∙ ap (λ (i : ℕ). slice_index (h ∷ (k ∷ hs)) i) same

-- ---- links

-- the prices inside a link that ends at the request after a node
inside_rise : (hs : List ℕ) (from node saving : ℕ) (kept : Bool) → Rises hs → from ≤ node → node < length hs
    → price_inside (prices_of hs) (record { from = from; to = node + 1; saving = saving; kept = kept }) + slice_index hs from ≡ slice_index hs node
inside_rise hs from node saving kept rises before below =
    let there : from + (node + 1 - 1 - from) ≡ node = omega arith in
    inside_sum from (node + 1 - 1 - from) hs rises (omega arith) ∙ ap (λ (i : ℕ). slice_index hs i) there

kept_saving : (kept : Bool) (saving inside low high : ℕ) → inside + low ≡ high → IsCalmRise kept saving low high → cond kept saving 0 ≡ cond kept inside 0 + (saving - inside)
kept_saving true saving inside low high rise calm = omega arith
kept_saving false saving inside low high rise calm = omega arith

-- no name was last requested after the places so far
abbrev pub AreSoFar : Asking → Type 0
AreSoFar asking = (name : List ℕ) (place : ℕ) → asking.last name ≡ Some place → place ≤ asking.place

pub start_so_far : (held : List (List ℕ)) → AreSoFar (at_start held)
start_so_far held name place is = by (list_any (is_same_name name) held) is
  where
    by : (b : Bool) → cond b (Some 0) None ≡ Some place → place ≤ 0
    by true e = let zero_is : 0 ≡ place = cc in omega arith
    by false e = absurd (cc)

pub more_so_far : (asking : Asking) (r : Asked) → AreSoFar asking → AreSoFar (after_request asking r)
more_so_far asking r so_far = λ name place is. by name place (is_same_name r.name name) is
  where
    by : (name : List ℕ) (place : ℕ) (b : Bool) → cond b (Some (asking.place + 1)) (asking.last name) ≡ Some place → place ≤ asking.place + 1
    by name place true e = let here : asking.place + 1 ≡ place = cc in omega arith
    by name place false e = omega (arith, so_far name place e)

abbrev kept_inside : List ℕ → List Link → ℕ
kept_inside ps ls = total (λ l. cond l.kept (price_inside ps l) 0) ls

abbrev above : List ℕ → List Link → ℕ
above ps ls = total (λ l. l.saving - price_inside ps l) ls

-- what a request adds to the three sums
one_link : (hs : List ℕ) (asking : Asking) (r : Asked) (arc : RequestArc) (ls ms : List Link) (last : Option ℕ) → asking.last r.name ≡ last → Rises hs → AreSoFar asking → asking.place < length hs → IsArc last asking.place r arc → IsCalmArc hs asking.place arc
    → kept_savings ls ≡ kept_inside (prices_of hs) ls + above (prices_of hs) ms
    → kept_savings (link_of last (asking.place + 1) r arc.kept ++ ls) ≡ kept_inside (prices_of hs) (link_of last (asking.place + 1) r arc.kept ++ ls) + above (prices_of hs) (link_of last (asking.place + 1) r true ++ ms)
one_link hs asking r arc ls ms None is rises so_far below arc_is calm later = later
one_link hs asking r arc ls ms (Some from) is rises so_far below (from_is, saving_is) calm later =
    let saving = r.write_cost - r.read_cost in
    let in_link : ℕ = price_inside (prices_of hs) (record { from = from; to = asking.place + 1; saving = saving; kept = arc.kept }) in
    let rise : in_link + slice_index hs from ≡ slice_index hs asking.place = inside_rise hs from asking.place saving arc.kept rises (so_far r.name from is) below in
    let calm_here : IsCalmRise arc.kept saving (slice_index hs from) (slice_index hs asking.place) =
    subst (λ (n : ℕ). IsCalmRise arc.kept n (slice_index hs from) (slice_index hs asking.place)) saving_is (subst (λ (n : ℕ). IsCalmRise arc.kept arc.saving (slice_index hs n) (slice_index hs asking.place)) from_is calm) in
    let one : cond arc.kept saving 0 ≡ cond arc.kept in_link 0 + (saving - in_link) = kept_saving arc.kept saving in_link (slice_index hs from) (slice_index hs asking.place) rise calm_here in
    four (cond arc.kept saving 0) (cond arc.kept in_link 0) (saving - in_link) (kept_savings ls) (kept_inside (prices_of hs) ls) (above (prices_of hs) ms) one later
  where
    four : (s i a ss is as_ : ℕ) → s ≡ i + a → ss ≡ is + as_ → s + ss ≡ (i + is) + (a + as_)
    four s i a ss is as_ one later = omega arith

-- the kept links save the prices of the places inside them plus what all links save above those
three_sums : (hs : List ℕ) (asking : Asking) (rs : List Asked) (arcs : List RequestArc) → Rises hs → AreSoFar asking → asking.place + length rs < length hs → AreArcs asking rs arcs → AreCalmArcs hs asking.place arcs
    → kept_savings (links_from asking rs (marks arcs)) ≡ kept_inside (prices_of hs) (links_from asking rs (marks arcs)) + above (prices_of hs) (links_from asking rs (map (λ r. true) rs))
three_sums hs asking [] [] rises so_far below are calm = refl
three_sums hs asking [] (arc ∷ arcs) rises so_far below are calm = absurd are
three_sums hs asking (r ∷ rs) [] rises so_far below are calm = absurd are
three_sums hs asking (r ∷ rs) (arc ∷ arcs) rises so_far below (arc_is, are) (calm_arc, calm) =
    one_link hs asking r arc (links_from (after_request asking r) rs (marks arcs)) (links_from (after_request asking r) rs (map (λ r. true) rs)) (asking.last r.name) refl rises so_far (omega arith) arc_is calm_arc
    (three_sums hs (after_request asking r) rs arcs rises (more_so_far asking r so_far) (omega arith) are calm)

pub arcs-length : (asking : Asking) (rs : List Asked) (arcs : List RequestArc) → AreArcs asking rs arcs → length arcs ≡ length rs
arcs-length asking [] [] are = refl
arcs-length asking [] (arc ∷ arcs) are = absurd are
arcs-length asking (r ∷ rs) [] are = absurd are
arcs-length asking (r ∷ rs) (arc ∷ arcs) (one, are) = omega (arith, arcs-length (after_request asking r) rs arcs are)

-- a place with a price above 0 is used in full
spent_or_free : (room cover slots low high price : ℕ) → room + cover ≡ slots → low ≤ high → (0 < room → high ≤ low) → price ≡ high - low → (cover ≡ slots) ⊎ (price ≡ 0)
spent_or_free room cover slots low high price spent rise full is = elim (cases_lt 0 room) [
  | inl some ↦ let flat : high ≤ low = full some in inr (omega arith)
  | inr none ↦ inl (omega arith)
]

-- the kept links save as much as calm heights let all links save
calm_is_tight : (slots : ℕ) (held : List (List ℕ)) (rs : List Asked) (heights room : List ℕ) (arcs : List RequestArc) → AreArcs (at_start held) rs arcs → IsCalm heights room arcs → AreSpent (slots - 1) room held rs arcs
    → kept_savings (links held rs (marks arcs)) ≡ bound slots (all_links held rs) (prices_of heights)
calm_is_tight slots held rs heights room arcs are calm spent =
    let many : length arcs ≡ length rs = arcs-length (at_start held) rs arcs are in
    let nodes : length heights ≡ length rs + 1 = omega (arith, calm.count) in
    let rises : Rises heights = λ i below. let next : i + 1 ≡ suc i = omega arith in subst (λ (n : ℕ). slice_index heights i ≤ slice_index heights n) next (calm.rises i (omega arith)) in
    let ps = prices_of heights in
    let cover : ℕ → ℕ = kept_over (links held rs (marks arcs)) in
    let paid : weighed cover 0 ps ≡ (slots - 1) * sum_of ps = weighed-const cover (slots - 1) 0 ps (λ i below.
    let within : i < length rs = omega (arith, prices-length heights) in
    let next : i + 1 ≡ suc i = omega arith in
    let here : i + 1 ≡ 0 + i + 1 = omega arith in
    let price : slice_index ps i ≡ slice_index heights (i + 1) - slice_index heights i = price-at heights i (omega arith) ∙ ap (λ (n : ℕ). slice_index heights n - slice_index heights i) (sym next) in
    subst (λ (n : ℕ). (cover n ≡ slots - 1) ⊎ (slice_index ps i ≡ 0)) here
    (spent_or_free (slice_index room i) (cover (i + 1)) (slots - 1) (slice_index heights i) (slice_index heights (i + 1)) (slice_index ps i) (spent i within) (calm.rises i (omega arith)) (calm.full i (omega arith)) price)) in
    three_sums heights (at_start held) rs arcs rises (start_so_far held) (omega arith) are calm.calm
    ∙ ap (λ (n : ℕ). n + above ps (all_links held rs)) (sym (weighed_over (links held rs (marks arcs)) ps) ∙ paid)

-- ---- the other conditions of an accepted plan

-- kept arcs are those of links
arcs_linked : (asking : Asking) (rs : List Asked) (arcs : List RequestArc) → AreArcs asking rs arcs → AreLinked asking rs (marks arcs)
arcs_linked asking [] [] are = tt
arcs_linked asking [] (arc ∷ arcs) are = absurd are
arcs_linked asking (r ∷ rs) [] are = absurd are
arcs_linked asking (r ∷ rs) (arc ∷ arcs) (one, are) = by (asking.last r.name) arc.kept refl refl one (arcs_linked (after_request asking r) rs arcs are)
  where
    by : (last : Option ℕ) (kept : Bool) → asking.last r.name ≡ last → arc.kept ≡ kept → IsArc last asking.place r arc → AreLinked (after_request asking r) rs (marks arcs) → AreLinked asking (r ∷ rs) (kept ∷ marks arcs)
    by last false is kept_is arc_is later = later
    by (Some from) true is kept_is arc_is later = ((from, is), later)
    by None true is kept_is arc_is later = let bad : true ≡ false = sym kept_is ∙ ap (λ (a : RequestArc). a.kept) arc_is in absurd (cc)

marks-length : (arcs : List RequestArc) → length (marks arcs) ≡ length arcs
marks-length [] = refl
marks-length (arc ∷ arcs) = omega (arith, marks-length arcs)

outside_none : (kept : Bool) (after before : Bool) → (after ≡ false) ⊎ (before ≡ false) → (kept && (after && before)) ≡ false
outside_none true true true (inl no_) = no_
outside_none true true true (inr no_) = no_
outside_none true true false out = refl
outside_none true false before out = refl
outside_none false after before out = refl

-- no link passes over the start or over a place after the requests
none_outside : (asking : Asking) (rs : List Asked) (keep : List Bool) (place : ℕ) → (place ≡ 0) ⊎ (asking.place + length rs ≤ place) → kept_over (links_from asking rs keep) place ≡ 0
none_outside asking [] keep place out = refl
none_outside asking (r ∷ rs) [] place out = refl
none_outside asking (r ∷ rs) (kept ∷ keep) place out = by (asking.last r.name) out (none_outside (after_request asking r) rs keep place (later out))
  where
    later : (place ≡ 0) ⊎ (asking.place + length (r ∷ rs) ≤ place) → (place ≡ 0) ⊎ (asking.place + 1 + length rs ≤ place)
    later (inl start) = inl start
    later (inr beyond) = inr (omega arith)

    tests : (from : ℕ) → (place ≡ 0) ⊎ (asking.place + length (r ∷ rs) ≤ place) → (nat_lt from place ≡ false) ⊎ (nat_lt place (asking.place + 1) ≡ false)
    tests from (inl start) = inl (grind (arith, nat_tests))
    tests from (inr beyond) = let here : asking.place + 1 ≤ place = omega arith in inr (grind (arith, nat_tests))

    by : (last : Option ℕ) → (place ≡ 0) ⊎ (asking.place + length (r ∷ rs) ≤ place) → kept_over (links_from (after_request asking r) rs keep) place ≡ 0 → kept_over (link_of last (asking.place + 1) r kept ++ links_from (after_request asking r) rs keep) place ≡ 0
    by None out none = none
    by (Some from) out none =
        ap (λ (b : Bool). cond b 1 0 + kept_over (links_from (after_request asking r) rs keep) place) (outside_none kept (nat_lt from place) (nat_lt place (asking.place + 1)) (tests from out))
        ∙ ap (λ (n : ℕ). 0 + n) none

room_spent : (slots : ℕ) (held : List (List ℕ)) (rs : List Asked) (room : List ℕ) (arcs : List RequestArc) → AreSpent slots room held rs arcs → (place : ℕ) → kept_over (links held rs (marks arcs)) place ≤ slots
room_spent slots held rs room arcs spent zero = omega (arith, none_outside (at_start held) rs (marks arcs) zero (inl refl))
room_spent slots held rs room arcs spent (suc place) = elim (cases_lt place (length rs)) [
  | inl within ↦ let next : place + 1 ≡ suc place = omega arith in
      subst (λ (n : ℕ). kept_over (links held rs (marks arcs)) n ≤ slots) next (omega (arith, spent place within))
  | inr beyond ↦ omega (arith, none_outside (at_start held) rs (marks arcs) (suc place) (inr (omega arith)))
]

pub calm_is_accepted : (slots : ℕ) (held : List (List ℕ)) (rs : List Asked) (heights room : List ℕ) (arcs : List RequestArc) → AreArcs (at_start held) rs arcs → IsCalm heights room arcs → AreSpent (slots - 1) room held rs arcs
    → AllByRecursion (λ price. price ≤ 2 ^ 32) (prices_of heights) → Accepts slots held rs (plan_of heights arcs)
calm_is_accepted slots held rs heights room arcs are calm spent range = record {
  keep = marks-length arcs ∙ arcs-length (at_start held) rs arcs are;
  prices = omega (arith, prices-length heights, calm.count, arcs-length (at_start held) rs arcs are);
  range = range;
  linked = arcs_linked (at_start held) rs arcs are;
  room = room_spent (slots - 1) held rs room arcs spent;
  tight = calm_is_tight slots held rs heights room arcs are calm spent;
}
