-- Bytes compared eight at a time, as numbers.
use Rattle.std.proofs.Common.{◌≡◌, ◌+◌, ◌*◌, ◌≤◌, ◌<◌, drop, length, ℕ, zero, suc, List, [], ◌∷◌, slice_index_or, Fits, w8, refl, sym, ap, subst, ◌∙◌, arith}
use Rattle.std.proofs.lemmas.List.{drop-drop, get_or-drop, length-drop}
use Rattle.std.specs.declared.cmp.Ordering.{Ordering}
use Rattle.std.specs.declared.cmp.Ordering.TheVariants.{Less, Equal, Greater}
use Rattle.std.specs.Ordering.{nat_cmp, ordering_then, MatchOrdering}
use Rattle.std.specs.Cmp.{ranks}
use Rattle.std.specs.Cmp.Lexicographic.{slice_cmp}
use Rattle.std.specs.Int.{w64, from_be_bytes}

abbrev pub AreBytes : List ℕ → Type 0
AreBytes xs = (i : ℕ) → Fits w8 (slice_index_or xs i 0)

abbrev compared : List ℕ → List ℕ → Ordering
compared us vs = slice_cmp nat_cmp us vs

-- the number whose base-256 digits are those of a followed by the first n bytes
abbrev value : ℕ → ℕ → List ℕ → ℕ
value zero a us = a
value (suc n) a [] = a
value (suc n) a (u ∷ us) = value n (a * 256 + u) us

-- x and y were read from the first n bytes of us and vs
record ReadFrom (n : ℕ) (us vs : List ℕ) (x y : ℕ) : Type 0 where
  pub apart : (x ≡ y → ⊥) → compared us vs ≡ nat_cmp x y
  pub alike : x ≡ y → compared us vs ≡ compared (drop n us) (drop n vs)

-- ---- `nat_cmp`, by the order of its arguments
less : (x y : ℕ) → x < y → nat_cmp x y ≡ Less
less x y l = by (nat_cmp x y) (ranks x y)
  where
    by : (r : Ordering) → MatchOrdering r (x < y) (x ≡ y) (y < x) → r ≡ Less
    by Less h = refl
    by Equal h = let e : x ≡ y = h in absurd (omega arith)
    by Greater h = let e : y < x = h in absurd (omega arith)

greater : (x y : ℕ) → y < x → nat_cmp x y ≡ Greater
greater x y l = by (nat_cmp x y) (ranks x y)
  where
    by : (r : Ordering) → MatchOrdering r (x < y) (x ≡ y) (y < x) → r ≡ Greater
    by Less h = let e : x < y = h in absurd (omega arith)
    by Equal h = let e : x ≡ y = h in absurd (omega arith)
    by Greater h = refl

-- ---- the number read
rises : (n a b : ℕ) (us vs : List ℕ) → n ≤ length us → n ≤ length vs → AreBytes us → a < b → value n a us < value n b vs
rises zero a b us vs p q h l = l
rises (suc n) a b [] vs p q h l = absurd (omega arith)
rises (suc n) a b (u ∷ us) [] p q h l = absurd (omega arith)
rises (suc n) a b (u ∷ us) (v ∷ vs) p q h l =
    let small : u < 256 = (h 0).fits in
    rises n (a * 256 + u) (b * 256 + v) us vs (omega arith) (omega arith) (λ i. h (suc i)) (omega arith)

module _ (n a u v : ℕ) (us vs : List ℕ) (p : n ≤ length us) (q : n ≤ length vs) (g : AreBytes (u ∷ us)) (h : AreBytes (v ∷ vs)) where
  first : (r : Ordering) → nat_cmp u v ≡ r → compared (u ∷ us) (v ∷ vs) ≡ ordering_then r (compared us vs)
  first r e = ap (λ o. ordering_then o (compared us vs)) e

  one_more : ReadFrom n us vs (value n (a * 256 + u) us) (value n (a * 256 + u) vs) → (r : Ordering) → nat_cmp u v ≡ r → MatchOrdering r (u < v) (u ≡ v) (v < u)
      → ReadFrom (suc n) (u ∷ us) (v ∷ vs) (value n (a * 256 + u) us) (value n (a * 256 + v) vs)
  one_more t Less e m =
      let under : u < v = m in
      let l = rises n (a * 256 + u) (a * 256 + v) us vs p q (λ i. g (suc i)) (omega arith) in
      record { apart = λ f. first Less e ∙ sym (less _ _ l); alike = λ s. absurd (omega arith) }
  one_more t Greater e m =
      let over : v < u = m in
      let l = rises n (a * 256 + v) (a * 256 + u) vs us q p (λ i. h (suc i)) (omega arith) in
      record { apart = λ f. first Greater e ∙ sym (greater _ _ l); alike = λ s. absurd (omega arith) }
  one_more t Equal e m =
      let level : u ≡ v = m in
      let l = subst (λ z. ReadFrom n us vs (value n (a * 256 + u) us) (value n (a * 256 + z) vs)) level t in
      record { apart = λ f. first Equal e ∙ l.apart f; alike = λ s. first Equal e ∙ l.alike s }

read_from : (n a : ℕ) (us vs : List ℕ) → n ≤ length us → n ≤ length vs → AreBytes us → AreBytes vs → ReadFrom n us vs (value n a us) (value n a vs)
read_from zero a us vs p q g h = record { apart = λ f. absurd (f refl); alike = λ e. refl }
read_from (suc n) a [] vs p q g h = absurd (omega arith)
read_from (suc n) a (u ∷ us) [] p q g h = absurd (omega arith)
read_from (suc n) a (u ∷ us) (v ∷ vs) p q g h =
    let fewer : n ≤ length us = omega arith in
    let few : n ≤ length vs = omega arith in
    one_more n a u v us vs fewer few g h (read_from n (a * 256 + u) us vs fewer few (λ i. g (suc i)) (λ i. h (suc i))) (nat_cmp u v) refl (ranks u v)

-- what `u64::from_be_bytes` makes of the first eight bytes
eight : (us : List ℕ) → 8 ≤ length us → from_be_bytes w64 us ≡ value 8 0 us
eight (a ∷ b ∷ c ∷ d ∷ e ∷ f ∷ g ∷ h ∷ us) l = omega arith
eight us l = absurd (omega arith)

module _ (us vs : List ℕ) (g : AreBytes us) (h : AreBytes vs) (at : ℕ) where
  rest : (xs : List ℕ) → AreBytes xs → AreBytes (drop at xs)
  rest xs b i = subst (Fits w8) (sym (get_or-drop at xs i 0)) (b (at + i))

  -- the eight bytes from `at` on, if those before are alike
  pub by_words : at + 8 ≤ length us → at + 8 ≤ length vs → compared us vs ≡ compared (drop at us) (drop at vs)
      → ((from_be_bytes w64 (drop at us) ≡ from_be_bytes w64 (drop at vs) → ⊥) → nat_cmp (from_be_bytes w64 (drop at us)) (from_be_bytes w64 (drop at vs)) ≡ compared us vs)
      × (from_be_bytes w64 (drop at us) ≡ from_be_bytes w64 (drop at vs) → compared us vs ≡ compared (drop (at + 8) us) (drop (at + 8) vs))
  by_words p q so_far =
      let one : 8 ≤ length (drop at us) = omega (arith, length-drop at us) in
      let other : 8 ≤ length (drop at vs) = omega (arith, length-drop at vs) in
      let x = eight (drop at us) one in
      let y = eight (drop at vs) other in
      let t = read_from 8 0 (drop at us) (drop at vs) one other (rest us g) (rest vs h) in (
        (λ f. (λ i. nat_cmp (x i) (y i)) ∙ sym (so_far ∙ t.apart (λ e. f (x ∙ e ∙ sym y)))),
        (λ e. so_far ∙ t.alike (sym x ∙ e ∙ y) ∙ (λ i. compared (further us i) (further vs i))),
      )
    where
      further : (xs : List ℕ) → drop 8 (drop at xs) ≡ drop (at + 8) xs
      further xs = drop-drop 8 at xs
