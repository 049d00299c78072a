-- The seats of a round.
use Rattle.std.proofs.Common.{◌≡◌, ℕ, ◌+◌, ◌<◌, ◌≤◌, ◌==◌, Bool, true, false, cond, List, [], ◌∷◌, refl, sym, ◌∙◌, arith, inl, inr, ◌⊎◌, eq-eqb, ne_eqb, true≢false}
use Rattle.std.specs.Bool.{MatchBool}
use Rattle.std.specs.List.{AllByRecursion, count_by}
use Rattle.std.proofs.lemmas.Bool.{cases_lt}
use Rattle.std.proofs.lemmas.Bool.Decides.{nat_tests}
use Rattle.std.proofs.lemmas.List.Sums.{sum_by-cons}
use Rattle.table_shards.specs.Receipts.{SeatState}
use Rattle.table_shards.specs.Roll.{AreSeats, IsSeatOf, has_number}

count_cons : (n : ℕ) (s : SeatState) (ss : List SeatState) → count_by (has_number n) (s ∷ ss) ≡ cond (s.number == n) 1 0 + count_by (has_number n) ss
count_cons n s ss = sum_by-cons (λ (x : SeatState). cond (has_number n x) 1 0) s ss

-- no seat has a number out of range
count_none : (most n : ℕ) (ss : List SeatState) → AllByRecursion (IsSeatOf most) ss → (n < 1) ⊎ (most < n) → count_by (has_number n) ss ≡ 0
count_none most n [] all out = refl
count_none most n (s ∷ ss) (first, rest) out =
    let apart : s.number ≡ n → ⊥ = λ is. elim out [ inl low ↦ absurd (omega arith) | inr high ↦ absurd (omega arith) ] in
    let other : ◌≡◌ {A = ℕ} (cond (s.number == n) 1 0) 0 = rw (ne_eqb s.number n apart) refl in
    omega (arith, count_cons n s ss, other, count_none most n ss rest out)

pub all_seats : (most : ℕ) (ss : List SeatState) → AllByRecursion (IsSeatOf most) ss → ((n : ℕ) → 1 ≤ n → n ≤ most → count_by (has_number n) ss ≡ 1) → AreSeats most ss
all_seats most ss within each n = elim (cases_lt n 1) [
  | inl low ↦ count_none most n ss within (inl low) ∙ sym (grind (arith, nat_tests))
  | inr le ↦ elim (cases_lt most n) [
    | inl high ↦ count_none most n ss within (inr high) ∙ sym (grind (arith, nat_tests))
    | inr fits ↦ each n le fits ∙ sym (grind (arith, nat_tests))
  ]
]

pub seats_each : (most : ℕ) (ss : List SeatState) → AreSeats most ss → (n : ℕ) → 1 ≤ n → n ≤ most → count_by (has_number n) ss ≡ 1
seats_each most ss are n low high = are n ∙ grind (arith, nat_tests)

-- each seat is counted under its own number
one_counted : (s : SeatState) (ss : List SeatState) → 1 ≤ count_by (has_number s.number) (s ∷ ss)
one_counted s ss =
    let one : ◌≡◌ {A = ℕ} (cond (s.number == s.number) 1 0) 1 = rw (eq-eqb s.number s.number refl) refl in
    omega (arith, count_cons s.number s ss, one)

within_counts : (most : ℕ) (ss : List SeatState) → ((n : ℕ) → (n < 1) ⊎ (most < n) → count_by (has_number n) ss ≡ 0) → AllByRecursion (IsSeatOf most) ss
within_counts most [] none = tt
within_counts most (s ∷ ss) none =
    let counted = one_counted s ss in
    let first : IsSeatOf most s = elim (cases_lt s.number 1) [
      | inl low ↦ absurd (omega (arith, counted, none s.number (inl low)))
      | inr le ↦ elim (cases_lt most s.number) [
        | inl high ↦ absurd (omega (arith, counted, none s.number (inr high)))
        | inr fits ↦ (le, fits)
      ]
    ] in
    (first, within_counts most ss (λ n out. omega (arith, count_cons n s ss, none n out)))

pub seats_within : (most : ℕ) (ss : List SeatState) → AreSeats most ss → AllByRecursion (IsSeatOf most) ss
seats_within most ss are = within_counts most ss (λ n out. are n ∙ elim out [ inl low ↦ grind (arith, nat_tests) | inr high ↦ grind (arith, nat_tests) ])

-- if each seat has one of the numbers
pub are_seats_where : (b : Bool) (most : ℕ) (ss : List SeatState) → AllByRecursion (IsSeatOf most) ss
    → MatchBool b ((n : ℕ) → 1 ≤ n → n ≤ most → count_by (has_number n) ss ≡ 1) (((n : ℕ) → 1 ≤ n → n ≤ most → count_by (has_number n) ss ≡ 1) → ⊥)
    → MatchBool b (AreSeats most ss) (AreSeats most ss → ⊥)
are_seats_where true most ss within each = all_seats most ss within each
are_seats_where false most ss within lacks = λ are. lacks (seats_each most ss are)

-- if one hasn't
pub are_not_seats : (b : Bool) (most : ℕ) (ss : List SeatState) → b ≡ false
    → MatchBool b (AllByRecursion (IsSeatOf most) ss) (AllByRecursion (IsSeatOf most) ss → ⊥) → MatchBool b (AreSeats most ss) (AreSeats most ss → ⊥)
are_not_seats true most ss not_so within = absurd (true≢false not_so)
are_not_seats false most ss not_so strange = λ are. strange (seats_within most ss are)
