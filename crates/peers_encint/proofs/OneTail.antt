-- The later bytes of a number: their value, that each number has one tail, and the tail's length.
use Rattle.std.proofs.Common.{◌≡◌, ℕ, zero, suc, ◌+◌, ◌-◌, ◌*◌, ◌/◌, ◌%◌, ◌^◌, ◌<◌, ◌≤◌, List, [], ◌∷◌, ◌++◌, length, get_or, refl, ap, ◌∙◌, arith, inl, inr}
use Rattle.std.proofs.lemmas.Bool.{cases_lt, lt-ltb, le-ltb}
use Rattle.std.proofs.lemmas.Nat.{pow-add}
use Rattle.peers_encint.specs.Integers.{added_from, IsTail, tail_of}

-- the value of later bytes: each holds seven more bits
abbrev pub value_of : List ℕ → ℕ
value_of [] = 0
value_of (c ∷ cs) = c + 128 * value_of cs

pub added-value : (w : ℕ) (cs : List ℕ) → added_from w cs ≡ 2 ^ w * value_of cs
added-value w [] = omega arith
added-value w (c ∷ cs) =
    let more : 2 ^ (w + 7) ≡ 2 ^ w * 128 = pow-add 2 w 7 in
    rw (added-value (w + 7) cs, more) (omega arith)

pub added-first : (cs : List ℕ) → added_from 4 cs ≡ 16 * value_of cs
added-first cs = added-value 4 cs

-- one more byte holds seven more bits
pub room_for-suc : (most : ℕ) → 2 ^ (7 * suc most + 7) ≡ 2 ^ (7 * most + 7) * 128
room_for-suc most =
    let e : 7 * suc most + 7 ≡ (7 * most + 7) + 7 = omega arith in
    ap (λ (k : ℕ). 2 ^ k) e ∙ pow-add 2 (7 * most + 7) 7

-- ---- the tail that the definition computes

pub tail_of-end : (i : ℕ) → tail_of zero i ≡ i ∷ []
unfolding tail_of
tail_of-end i = refl

pub tail_of-last : (most i : ℕ) → i < 128 → tail_of most i ≡ i ∷ []
unfolding tail_of
tail_of-last zero i h = refl
tail_of-last (suc most) i h = rw (lt-ltb i 128 h) refl

pub tail_of-more : (most i : ℕ) → 128 ≤ i → tail_of (suc most) i ≡ (128 + i % 128) ∷ tail_of most ((i - 128) / 128)
unfolding tail_of
tail_of-more most i h = rw (le-ltb i 128 h) refl

pub value-tail_of : (most i : ℕ) → value_of (tail_of most i) ≡ i
value-tail_of zero i = rw (tail_of-end i) (omega arith)
value-tail_of (suc most) i =
    elim (cases_lt i 128) [
      | inl lt ↦ rw (tail_of-last (suc most) i lt) (omega arith)
      | inr le ↦ rw (tail_of-more most i le, value-tail_of most ((i - 128) / 128)) (omega arith)
    ]

pub IsTail-cons : (c : ℕ) (cs : List ℕ) → 128 ≤ c → c < 256 → IsTail cs → IsTail (c ∷ cs)
IsTail-cons c [] p q t = absurd t
IsTail-cons c (d ∷ cs) p q t = (p, q, t)

pub IsTail-tail_of : (most i : ℕ) → i < 2 ^ (7 * most + 7) → IsTail (tail_of most i)
IsTail-tail_of zero i h = rw (tail_of-end i) h
IsTail-tail_of (suc most) i h =
    let room = room_for-suc most in
    elim (cases_lt i 128) [
      | inl lt ↦ rw (tail_of-last (suc most) i lt) lt
      | inr le ↦ rw (tail_of-more most i le) (IsTail-cons _ _ (omega arith) (omega arith) (IsTail-tail_of most ((i - 128) / 128) (omega arith)))
    ]

-- ---- each number has one tail, and no tail is a prefix of another

pub same_tail : (a b : List ℕ) → IsTail a → IsTail b → value_of a ≡ value_of b → a ≡ b
same_tail [] b p q e = absurd p
same_tail (c ∷ a) [] p q e = absurd q
same_tail (c ∷ []) (d ∷ []) p q e = let h : c ≡ d = omega arith in cc
same_tail (c ∷ []) (d ∷ d2 ∷ b) p q e = absurd (omega (arith, q.0))
same_tail (c ∷ c2 ∷ a) (d ∷ []) p q e = absurd (omega (arith, p.0))
same_tail (c ∷ c2 ∷ a) (d ∷ d2 ∷ b) p q e =
    let head : c ≡ d = omega (arith, p.0, p.1, q.0, q.1) in
    let rest : value_of (c2 ∷ a) ≡ value_of (d2 ∷ b) = omega (arith, p.0, p.1, q.0, q.1) in
    let tail : ◌≡◌ {A = List ℕ} (c2 ∷ a) (d2 ∷ b) = same_tail (c2 ∷ a) (d2 ∷ b) p.2 q.2 rest in
    cc

pub apart_tail : (a b x y : List ℕ) → IsTail a → IsTail b → a ++ x ≡ b ++ y → a ≡ b
apart_tail [] b x y p q e = absurd p
apart_tail (c ∷ a) [] x y p q e = absurd q
apart_tail (c ∷ []) (d ∷ []) x y p q e = cc
apart_tail (c ∷ []) (d ∷ d2 ∷ b) x y p q e = let h : c ≡ d = cc in absurd (omega (arith, q.0))
apart_tail (c ∷ c2 ∷ a) (d ∷ []) x y p q e = let h : c ≡ d = cc in absurd (omega (arith, p.0))
apart_tail (c ∷ c2 ∷ a) (d ∷ d2 ∷ b) x y p q e =
    let head : c ≡ d = cc in
    let rest : ◌≡◌ {A = List ℕ} ((c2 ∷ a) ++ x) ((d2 ∷ b) ++ y) = cc in
    let tail : ◌≡◌ {A = List ℕ} (c2 ∷ a) (d2 ∷ b) = apart_tail (c2 ∷ a) (d2 ∷ b) x y p.2 q.2 rest in
    cc

-- ---- lengths

pub length-tail_of-last : (most i : ℕ) → i < 128 → length (tail_of most i) ≡ 1
length-tail_of-last most i h = rw (tail_of-last most i h) refl

pub length-tail_of-more : (most i : ℕ) → 128 ≤ i → length (tail_of (suc most) i) ≡ suc (length (tail_of most ((i - 128) / 128)))
length-tail_of-more most i h = rw (tail_of-more most i h) refl

pub some_tail : (most i : ℕ) → 1 ≤ length (tail_of most i)
some_tail zero i = rw (tail_of-end i) (omega arith)
some_tail (suc most) i =
    elim (cases_lt i 128) [
      | inl lt ↦ omega (arith, length-tail_of-last (suc most) i lt)
      | inr le ↦ omega (arith, length-tail_of-more most i le)
    ]

pub short_tail : (most i : ℕ) → length (tail_of most i) ≤ suc most
short_tail zero i = rw (tail_of-end i) (omega arith)
short_tail (suc most) i =
    elim (cases_lt i 128) [
      | inl lt ↦ omega (arith, length-tail_of-last (suc most) i lt)
      | inr le ↦ omega (arith, length-tail_of-more most i le, short_tail most ((i - 128) / 128))
    ]

pub longer_tail : (most i j : ℕ) → i ≤ j → length (tail_of most i) ≤ length (tail_of most j)
longer_tail zero i j h = rw (tail_of-end i, tail_of-end j) (omega arith)
longer_tail (suc most) i j h =
    elim (cases_lt i 128) [
      | inl lt ↦ omega (arith, length-tail_of-last (suc most) i lt, some_tail (suc most) j)
      | inr le ↦
          let le_j : 128 ≤ j = omega arith in
          let less : (i - 128) / 128 ≤ (j - 128) / 128 = omega arith in
          omega (arith, length-tail_of-more most i le, length-tail_of-more most j le_j, longer_tail most ((i - 128) / 128) ((j - 128) / 128) less)
    ]

-- one more byte reaches 128 times as far, plus the 128 numbers of a single byte
pub tail_within : (most k i limit : ℕ) → 1 ≤ k → ((j : ℕ) → j < limit → length (tail_of most j) ≤ k) → i < 128 + 128 * limit → length (tail_of (suc most) i) ≤ suc k
tail_within most k i limit some within h =
    elim (cases_lt i 128) [
      | inl lt ↦ omega (arith, length-tail_of-last (suc most) i lt)
      | inr le ↦ omega (arith, length-tail_of-more most i le, within ((i - 128) / 128) (omega arith))
    ]

-- ---- each byte of a tail is a byte

pub bytes_tail : (cs : List ℕ) → IsTail cs → (i : ℕ) → get_or cs i 0 < 256
bytes_tail [] t i = absurd t
bytes_tail (c ∷ []) t zero = omega arith
bytes_tail (c ∷ []) t (suc i) = omega arith
bytes_tail (c ∷ d ∷ cs) t zero = t.1
bytes_tail (c ∷ d ∷ cs) t (suc i) = bytes_tail (d ∷ cs) t.2 i
