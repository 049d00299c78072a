-- Each number has one spelling, each spelling means one number, and no spelling is a prefix of another.
use Rattle.std.proofs.Common.{◌≡◌, ℕ, zero, suc, ◌+◌, ◌-◌, ◌*◌, ◌/◌, ◌%◌, ◌^◌, ◌<◌, ◌≤◌, List, [], ◌∷◌, ◌++◌, length, refl, sym, ap, subst, ◌∙◌, arith, inl, inr}
use Rattle.std.proofs.lemmas.Bool.{cases_lt, lt-ltb, le-ltb}
use Rattle.peers_encint.specs.Integers.{added_from, IsTail, SpellsInteger, tail_of, spelling, IsBytes}
use Rattle.peers_encint.specs.IntegerLaws.{IsSpelled, HasOneSpelling, MeansOneNumber, BeginsNoOther, SpellsBytes, IsLongerForGreater, HasLengthWithin, FitsTheTable}
use Rattle.peers_encint.proofs.OneTail.{value_of, added-first, value-tail_of, IsTail-tail_of, same_tail, apart_tail, short_tail, longer_tail, tail_within, length-tail_of-last, bytes_tail}

pub spelling-low : (n : ℕ) → n < 240 → spelling n ≡ n ∷ []
unfolding spelling
spelling-low n h = rw (lt-ltb n 240 h) refl

pub spelling-high : (n : ℕ) → 240 ≤ n → spelling n ≡ (240 + n % 16) ∷ tail_of 8 ((n - 240) / 16)
unfolding spelling
spelling-high n h = rw (le-ltb n 240 h) refl

pub SpellsInteger-long : (f : ℕ) (cs : List ℕ) (n : ℕ) → 240 ≤ f → f < 256 → IsTail cs → n ≡ f + added_from 4 cs → n < 2 ^ 64 → SpellsInteger (f ∷ cs) n
SpellsInteger-long f [] n p q t e h = absurd t
SpellsInteger-long f (c ∷ cs) n p q t e h = (p, q, t, e, h)

pub spelled : IsSpelled
spelled n h =
    elim (cases_lt n 240) [
      | inl lt ↦ rw (spelling-low n lt) (lt, refl)
      | inr le ↦
          let i : ℕ = (n - 240) / 16 in
          let is : n ≡ (240 + n % 16) + 16 * ((n - 240) / 16) = omega arith in
          let sum : n ≡ (240 + n % 16) + added_from 4 (tail_of 8 ((n - 240) / 16)) = rw (added-first (tail_of 8 ((n - 240) / 16)), value-tail_of 8 ((n - 240) / 16)) is in
          rw (spelling-high n le) (SpellsInteger-long (240 + n % 16) (tail_of 8 ((n - 240) / 16)) n (omega arith) (omega arith) (IsTail-tail_of 8 ((n - 240) / 16) (omega arith)) sum h)
    ]

pub one_spelling : HasOneSpelling
one_spelling [] b n p q = absurd p
one_spelling (f ∷ a) [] n p q = absurd q
one_spelling (f ∷ []) (g ∷ []) n p q = let e : f ≡ g = omega (arith, p.1, q.1) in cc
one_spelling (f ∷ []) (g ∷ d ∷ b) n p q = absurd (omega (arith, p.0, p.1, q.0, q.3))
one_spelling (f ∷ c ∷ a) (g ∷ []) n p q = absurd (omega (arith, p.0, p.3, q.0, q.1))
one_spelling (f ∷ c ∷ a) (g ∷ d ∷ b) n p q =
    let v = added-first (c ∷ a) in
    let w = added-first (d ∷ b) in
    let e : f + 16 * value_of (c ∷ a) ≡ g + 16 * value_of (d ∷ b) = omega (arith, p.3, q.3) in
    let head : f ≡ g = omega (arith, p.0, p.1, q.0, q.1) in
    let rest : value_of (c ∷ a) ≡ value_of (d ∷ b) = omega (arith, p.0, p.1, q.0, q.1) in
    let tail : ◌≡◌ {A = List ℕ} (c ∷ a) (d ∷ b) = same_tail (c ∷ a) (d ∷ b) p.2 q.2 rest in
    cc

pub one_number : MeansOneNumber
one_number [] m n p q = absurd p
one_number (f ∷ []) m n p q = p.1 ∙ sym q.1
one_number (f ∷ c ∷ a) m n p q = p.3 ∙ sym q.3

same_front : (a b x y : List ℕ) (m n : ℕ) → SpellsInteger a m → SpellsInteger b n → a ++ x ≡ b ++ y → a ≡ b
same_front [] b x y m n p q e = absurd p
same_front (f ∷ a) [] x y m n p q e = absurd q
same_front (f ∷ []) (g ∷ []) x y m n p q e = cc
same_front (f ∷ []) (g ∷ d ∷ b) x y m n p q e = let h : f ≡ g = cc in absurd (omega (arith, p.0, q.0))
same_front (f ∷ c ∷ a) (g ∷ []) x y m n p q e = let h : f ≡ g = cc in absurd (omega (arith, p.0, q.0))
same_front (f ∷ c ∷ a) (g ∷ d ∷ b) x y m n p q e =
    let head : f ≡ g = cc in
    let rest : ◌≡◌ {A = List ℕ} ((c ∷ a) ++ x) ((d ∷ b) ++ y) = cc in
    let tail : ◌≡◌ {A = List ℕ} (c ∷ a) (d ∷ b) = apart_tail (c ∷ a) (d ∷ b) x y p.2 q.2 rest in
    cc

-- bytes after the same front are the same
same_rest : (a x y : List ℕ) → a ++ x ≡ a ++ y → x ≡ y
same_rest [] x y e = e
same_rest (c ∷ a) x y e = let rest : a ++ x ≡ a ++ y = cc in same_rest a x y rest

pub apart : BeginsNoOther
apart a b x y m n p q e =
    let same = same_front a b x y m n p q e in
    let q_at_a : SpellsInteger a n = subst (λ (s : List ℕ). SpellsInteger s n) (sym same) q in
    (same, one_number a m n p q_at_a, same_rest a x y (e ∙ ap (λ (s : List ℕ). s ++ y) (sym same)))

bytes_spelled : (a : List ℕ) (n : ℕ) → SpellsInteger a n → IsBytes a
bytes_spelled [] n p i = absurd p
bytes_spelled (f ∷ []) n p zero = omega (arith, p.0)
bytes_spelled (f ∷ []) n p (suc i) = omega arith
bytes_spelled (f ∷ c ∷ a) n p zero = p.1
bytes_spelled (f ∷ c ∷ a) n p (suc i) = bytes_tail (c ∷ a) p.2 i

pub bytes : SpellsBytes
bytes n h = bytes_spelled (spelling n) n (spelled n h)

-- ---- lengths

pub length-low : (n : ℕ) → n < 240 → length (spelling n) ≡ 1
length-low n h = rw (spelling-low n h) refl

pub length-high : (n : ℕ) → 240 ≤ n → length (spelling n) ≡ suc (length (tail_of 8 ((n - 240) / 16)))
length-high n h = rw (spelling-high n h) refl

pub within : HasLengthWithin
within n =
    elim (cases_lt n 240) [
      | inl lt ↦ let e = length-low n lt in (omega arith, omega arith)
      | inr le ↦ let e = length-high n le in (omega arith, omega (arith, short_tail 8 ((n - 240) / 16)))
    ]

pub longer : IsLongerForGreater
longer m n h =
    elim (cases_lt m 240) [
      | inl lt ↦ omega (arith, length-low m lt, (within n).0)
      | inr le ↦
          let le_n : 240 ≤ n = omega arith in
          omega (arith, length-high m le, length-high n le_n, longer_tail 8 ((m - 240) / 16) ((n - 240) / 16) (omega arith))
    ]

tail1 : (most i : ℕ) → i < 128 → length (tail_of most i) ≤ 1
tail1 most i h = omega (arith, length-tail_of-last most i h)

tail2 : (most i : ℕ) → i < 16512 → length (tail_of (suc most) i) ≤ 2
tail2 most i h = tail_within most 1 i 128 (omega arith) (tail1 most) (omega arith)

tail3 : (most i : ℕ) → i < 2113664 → length (tail_of (suc (suc most)) i) ≤ 3
tail3 most i h = tail_within (suc most) 2 i 16512 (omega arith) (tail2 most) (omega arith)

tail4 : (most i : ℕ) → i < 270549120 → length (tail_of (suc (suc (suc most))) i) ≤ 4
tail4 most i h = tail_within (suc (suc most)) 3 i 2113664 (omega arith) (tail3 most) (omega arith)

-- k bytes after the first are enough below the limit
fits : (k limit n : ℕ) → 1 ≤ k → ((i : ℕ) → i < limit → length (tail_of 8 i) ≤ k) → n < 240 + 16 * limit → length (spelling n) ≤ suc k
fits k limit n some short h =
    elim (cases_lt n 240) [
      | inl lt ↦ omega (arith, length-low n lt)
      | inr le ↦ omega (arith, length-high n le, short ((n - 240) / 16) (omega arith))
    ]

pub table : FitsTheTable
table n = (
  length-low n,
  λ h. fits 1 128 n (omega arith) (tail1 8) (omega arith),
  λ h. fits 2 16512 n (omega arith) (tail2 7) (omega arith),
  λ h. fits 3 2113664 n (omega arith) (tail3 6) (omega arith),
  λ h. fits 4 270549120 n (omega arith) (tail4 5) (omega arith),
)
