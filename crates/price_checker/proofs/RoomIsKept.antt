-- Counts of the links over places.
use Rattle.std.proofs.Common.{◌≡◌, ℕ, zero, suc, ◌+◌, ◌-◌, ◌<◌, ◌≤◌, Bool, true, false, ◌&&◌, cond, eqb, List, [], ◌∷◌, length, get_or, replicate, refl, subst, inl, inr, arith}
use Rattle.std.proofs.lemmas.Bool.{cases_lt}
use Rattle.known_state.specs.Plans.{Link, total, is_inside, kept_over, kept_from, kept_to}
use Rattle.known_state.proofs.LinkPlaces.{over_next, over_none}
use Rattle.price_checker.specs.Links.{AreWithin}

-- a list of zeros has 0 at each index, and past its end
pub zero_at : (n index : ℕ) → ◌≡◌ {A = ℕ} (get_or (replicate n 0) index 0) 0
zero_at zero index = refl
zero_at (suc n) zero = refl
zero_at (suc n) (suc index) = zero_at n index

-- no more links pass a test than there are
few : (test : Link → Bool) (ls : List Link) → total (λ l. cond (test l) 1 0) ls ≤ length ls
few test [] = omega arith
few test (l ∷ ls) = by (test l) (few test ls)
  where
    by : (b : Bool) → total (λ l. cond (test l) 1 0) ls ≤ length ls → cond b 1 0 + total (λ l. cond (test l) 1 0) ls ≤ length (l ∷ ls)
    by true rest = omega arith
    by false rest = omega arith

pub few_over : (ls : List Link) (place : ℕ) → kept_over ls place ≤ length ls
few_over ls place = few (λ l. l.kept && is_inside place l) ls

pub few_from : (ls : List Link) (place : ℕ) → kept_from ls place ≤ length ls
few_from ls place = few (λ l. l.kept && eqb l.from place) ls

pub few_to : (ls : List Link) (place : ℕ) → kept_to ls place ≤ length ls
few_to ls place = few (λ l. l.kept && eqb l.to place) ls

-- how many links are over a place, given how many are over the place before
pub over_here : (ls : List Link) (place : ℕ) → AreWithin 4096 ls → 1 ≤ place → kept_over ls place + kept_to ls place ≡ kept_over ls (place - 1) + kept_from ls (place - 1)
over_here ls place within some =
    let next : place - 1 + 1 ≡ place = omega arith in
    subst (λ (n : ℕ). kept_over ls n + kept_to ls n ≡ kept_over ls (place - 1) + kept_from ls (place - 1)) next (over_next 4096 (place - 1) ls within)

-- there is room at all places if there is at those of requests
pub room_everywhere : (slots : ℕ) (ls : List Link) → AreWithin 4096 ls → ((place : ℕ) → place < 4096 → kept_over ls place ≤ slots - 1) → (place : ℕ) → kept_over ls place ≤ slots - 1
room_everywhere slots ls within room place = elim (cases_lt place 4096) [
  | inl before ↦ room place before
  | inr beyond ↦ omega (arith, over_none 4096 place ls within beyond)
]

-- and at one place more
pub room_more : (slots place over : ℕ) (ls : List Link) → over ≡ kept_over ls place → over < slots → ((p : ℕ) → p < place → kept_over ls p ≤ slots - 1) → (p : ℕ) → p < place + 1 → kept_over ls p ≤ slots - 1
room_more slots place over ls is below room p lt = elim (cases_lt p place) [
  | inl before ↦ room p before
  | inr from ↦ let here : place ≡ p = omega arith in subst (λ (q : ℕ). kept_over ls q ≤ slots - 1) here (omega arith)
]
