-- Sums of prices from the start, and the sum of prices up to 2^32.
use Rattle.std.proofs.Common.{◌≡◌, ℕ, zero, suc, ◌+◌, ◌-◌, ◌*◌, ◌^◌, ◌<◌, ◌≤◌, List, [], ◌∷◌, length, get_or, set, take, drop, refl, sym, ap, ◌∙◌, subst, inl, inr, arith}
use Rattle.std.specs.List.{AllByRecursion}
use Rattle.std.proofs.lemmas.Bool.{cases_eq}
use Rattle.std.proofs.lemmas.List.{get_or-set_same, get_or-set_other, take_all, at_drop_more}
use Rattle.known_state.specs.Plans.{Link, total, sum_of, price_inside}
use Rattle.price_checker.specs.Links.{AreWithin}
use Rattle.price_checker.specs.Sums.{AreSums}

pub first_sum : (n : ℕ) (ps : List ℕ) → sum_of (take n ps) ≤ sum_of ps
first_sum zero ps = omega arith
first_sum (suc n) [] = omega arith
first_sum (suc n) (p ∷ ps) = omega (arith, first_sum n ps)

-- the sum of one more price
pub sum-more : (ps : List ℕ) (i : ℕ) → i < length ps → sum_of (take (i + 1) ps) ≡ sum_of (take i ps) + get_or ps i 0
sum-more [] i below = absurd (omega arith)
sum-more (p ∷ ps) zero below = omega arith
sum-more (p ∷ ps) (suc i) below =
    let next : suc i + 1 ≡ suc (i + 1) = omega arith in
    let more = sum-more ps i (omega arith) in
    ap (λ (n : ℕ). sum_of (take n (p ∷ ps))) next ∙ omega arith

no_sum : (k : ℕ) → sum_of (take k []) ≡ 0
no_sum zero = refl
no_sum (suc k) = refl

-- the sum of the first prices, and the sum of those that follow
sum-parts : (m n : ℕ) (ps : List ℕ) → sum_of (take m ps) + sum_of (take n (drop m ps)) ≡ sum_of (take (m + n) ps)
sum-parts zero n ps = let same : 0 + n ≡ n = omega arith in omega (arith, ap (λ (k : ℕ). sum_of (take k ps)) same)
sum-parts (suc m) n [] = omega (arith, no_sum n, no_sum (suc m + n))
sum-parts (suc m) n (p ∷ ps) =
    let next : suc m + n ≡ suc (m + n) = omega arith in
    let rest = sum-parts m n ps in
    let whole : sum_of (take (suc m + n) (p ∷ ps)) ≡ p + sum_of (take (m + n) ps) = ap (λ (k : ℕ). sum_of (take k (p ∷ ps))) next in
    omega arith

-- the sum up to a later place is greater by the prices between
pub inside_is : (ps sums : List ℕ) (l : Link) → AreSums ps sums → l.from < l.to → l.to ≤ length ps → get_or sums (l.to - 1) 0 ≡ get_or sums l.from 0 + price_inside ps l
inside_is ps sums l are forward within =
    let n = l.to - 1 - l.from in
    let last : l.from + n ≡ l.to - 1 = omega arith in
    are.1 (l.to - 1) (omega arith)
    ∙ ap (λ (k : ℕ). sum_of (take k ps)) (sym last)
    ∙ sym (sum-parts l.from n ps)
    ∙ ap (λ (k : ℕ). k + price_inside ps l) (sym (are.1 l.from (omega arith)))

-- the sums are known one price later
pub sums-more : (ps sums : List ℕ) (i : ℕ) → i < length ps → length ps ≤ 4096 → length sums ≡ 4097 → ((count : ℕ) → count ≤ i → get_or sums count 0 ≡ sum_of (take count ps)) → (count : ℕ) → count ≤ i + 1 → get_or (set sums (i + 1) (get_or sums i 0 + get_or ps i 0)) count 0 ≡ sum_of (take count ps)
sums-more ps sums i below few long so_far count within = elim (cases_eq count (i + 1)) [
  | inl here ↦
      let last : get_or (set sums (i + 1) (get_or sums i 0 + get_or ps i 0)) (i + 1) 0 ≡ sum_of (take (i + 1) ps) = get_or-set_same sums (i + 1) (get_or sums i 0 + get_or ps i 0) 0 (omega arith) ∙ ap (λ (n : ℕ). n + get_or ps i 0) (so_far i (omega arith)) ∙ sym (sum-more ps i below) in
      subst (λ (n : ℕ). get_or (set sums (i + 1) (get_or sums i 0 + get_or ps i 0)) n 0 ≡ sum_of (take n ps)) (sym here) last
  | inr before ↦ get_or-set_other sums (i + 1) count (get_or sums i 0 + get_or ps i 0) 0 before ∙ so_far count (omega arith)
]

-- the last one is the sum of all
pub all_is : (ps sums : List ℕ) → AreSums ps sums → get_or sums (length ps) 0 ≡ sum_of ps
all_is ps sums are = are.1 (length ps) (omega arith) ∙ ap sum_of (take_all (length ps) ps (omega arith))

-- the link at an index is within the places
pub within_at : (places : ℕ) (ls : List Link) (i : ℕ) (l : Link) → AreWithin places ls → i < length ls → l ≡ get_or ls i l → (l.from < l.to) × (l.to ≤ places)
within_at places [] i l all below is = absurd (omega arith)
within_at places (x ∷ xs) zero l all below is = subst (λ (y : Link). (y.from < y.to) × (y.to ≤ places)) (sym is) all.0
within_at places (x ∷ xs) (suc i) l all below is = within_at places xs i l all.1 (omega arith) is

-- what the links from an index on save above the prices is that of the link there and those after it
pub above-next : (ps : List ℕ) (ls : List Link) (i : ℕ) (l : Link) → i < length ls → l ≡ get_or ls i l → total (λ x. x.saving - price_inside ps x) (drop i ls) ≡ (l.saving - price_inside ps l) + total (λ x. x.saving - price_inside ps x) (drop (i + 1) ls)
above-next ps ls i l below is =
    at_drop_more (λ (rest : List Link). total (λ x. x.saving - price_inside ps x) rest) ls i l below
    ∙ ap (λ (x : Link). (x.saving - price_inside ps x) + total (λ x. x.saving - price_inside ps x) (drop (i + 1) ls)) (sym is)

-- prices up to 2^32 sum up to at most their number times 2^32
pub prices_sum : (ps : List ℕ) → AllByRecursion (λ price. price ≤ 2 ^ 32) ps → sum_of ps ≤ 2 ^ 32 * length ps
prices_sum [] small = omega arith
prices_sum (p ∷ ps) (first, others) = omega (arith, prices_sum ps others)
