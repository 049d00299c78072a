-- Reading a spelling returns its number, the bytes of a number read are its spelling, and appending bytes changes
-- nothing.
use Rattle.std.proofs.Common.{◌≡◌, ◌≢◌, ℕ, zero, suc, ◌+◌, ◌*◌, ◌^◌, ◌<◌, ◌≤◌, List, [], ◌∷◌, ◌++◌, length, get_or, take, drop, Option, Some, None, refl, sym, ap, subst, ◌∙◌, arith, ◌⊎◌, inl, inr}
use Rattle.std.specs.Prelude.{IfSome}
use Rattle.std.specs.List.{AllByRecursion}
use Rattle.std.specs.Option.{option_map}
use Rattle.std.proofs.lemmas.Bool.{cases_lt, lt-ltb, le-ltb}
use Rattle.std.proofs.lemmas.Nat.{pow-add, pow_pos}
use Rattle.std.proofs.lemmas.List.{take_at, take-append-drop, length-take-le, take-append-le}
use Rattle.peers_encint.specs.declared.reading.Read.{Read}
use Rattle.peers_encint.specs.declared.reading.Read.TheVariants.{Value, Short, Over}
use Rattle.peers_encint.specs.Integers.{added_from, IsTail, SpellsInteger, spelling, IsBytes, Reads, tail_length, whole_of, long_of, read_of}
use Rattle.peers_encint.specs.IntegerLaws.{IsReadAgain, IsSpelledAsRead, StaysRead}
use Rattle.peers_encint.proofs.OneTail.{value_of, added-first, room_for-suc, IsTail-cons}
use Rattle.peers_encint.proofs.OneSpelling.{SpellsInteger-long, spelled, one_spelling}

-- ---- the length of a tail

pub tail_length-last : (most c : ℕ) (cs : List ℕ) → c < 128 → tail_length most (c ∷ cs) ≡ Some 1
tail_length-last zero c cs h = refl
tail_length-last (suc most) c cs h = rw (lt-ltb c 128 h) refl

pub tail_length-more : (most c : ℕ) (cs : List ℕ) → 128 ≤ c → tail_length (suc most) (c ∷ cs) ≡ option_map suc (tail_length most cs)
tail_length-more most c cs h = rw (le-ltb c 128 h) refl

tail_ends : (most : ℕ) (cs rest : List ℕ) → IsTail cs → value_of cs < 2 ^ (7 * most + 7) → tail_length most (cs ++ rest) ≡ Some (length cs)
tail_ends most [] rest t h = absurd t
tail_ends most (c ∷ []) rest t h = tail_length-last most c rest t
tail_ends zero (c ∷ d ∷ cs) rest t h = absurd (omega (arith, t.0))
tail_ends (suc most) (c ∷ d ∷ cs) rest t h =
    let room = room_for-suc most in
    let less : value_of (d ∷ cs) < 2 ^ (7 * most + 7) = omega arith in
    tail_length-more most c ((d ∷ cs) ++ rest) t.0 ∙ ap (option_map suc) (tail_ends most (d ∷ cs) rest t.2 less)

none_ends : (most : ℕ) (cs : List ℕ) → AllByRecursion (λ c. 128 ≤ c) cs → length cs ≤ most → tail_length most cs ≡ None
none_ends most [] a h = refl
none_ends zero (c ∷ cs) a h = absurd (omega arith)
none_ends (suc most) (c ∷ cs) a h = tail_length-more most c cs a.0 ∙ ap (option_map suc) (none_ends most cs a.1 (omega arith))

all_stand : (most : ℕ) (cs : List ℕ) → AllByRecursion (λ c. 128 ≤ c) (take most cs) → most < length cs → tail_length most cs ≡ Some (suc most)
all_stand most [] a h = absurd (omega arith)
all_stand zero (c ∷ cs) a h = refl
all_stand (suc most) (c ∷ cs) a h = tail_length-more most c cs a.0 ∙ ap (option_map suc) (all_stand most cs a.1 (omega arith))

-- ---- a result that Reads allows is the one computed

pub whole_of-within : (n used : ℕ) → n < 2 ^ 64 → whole_of n used ≡ Value n used
whole_of-within n used h = rw (lt-ltb n (2 ^ 64) h) refl

pub whole_of-over : (n used : ℕ) → 2 ^ 64 ≤ n → whole_of n used ≡ Over
whole_of-over n used h = rw (le-ltb n (2 ^ 64) h) refl

pub read_of-low : (f : ℕ) (cs : List ℕ) → f < 240 → read_of (f ∷ cs) ≡ Value f 1
unfolding read_of
read_of-low f cs h = rw (lt-ltb f 240 h) refl

pub read_of-high : (f : ℕ) (cs : List ℕ) → 240 ≤ f → read_of (f ∷ cs) ≡ long_of f cs (tail_length 8 cs)
unfolding read_of
read_of-high f cs h = rw (le-ltb f 240 h) refl

pub read_of-none : read_of [] ≡ Short
unfolding read_of
read_of-none = refl

long_whole : (f : ℕ) (t cs : List ℕ) (k n : ℕ) → take k cs ≡ t → n ≡ f + added_from 4 t → n < 2 ^ 64 → long_of f cs (Some k) ≡ Value n (suc k)
long_whole f t cs k n front is h =
    let sum : f + added_from 4 (take k cs) ≡ n = ap (λ (s : List ℕ). f + added_from 4 s) front ∙ sym is in
    ap (λ (s : ℕ). whole_of s (suc k)) sum ∙ whole_of-within n (suc k) h

-- a spelling at the front is read, whatever follows
pub read_front : (a rest : List ℕ) (n : ℕ) → SpellsInteger a n → read_of (a ++ rest) ≡ Value n (length a)
read_front [] rest n p = absurd p
read_front (f ∷ []) rest n p = read_of-low f rest p.0 ∙ ap (λ (m : ℕ). Value m 1) (sym p.1)
read_front (f ∷ c ∷ cs) rest n p =
    let v = added-first (c ∷ cs) in
    let less : value_of (c ∷ cs) < 2 ^ (7 * 8 + 7) = omega (arith, p.3, p.4) in
    read_of-high f ((c ∷ cs) ++ rest) p.0
    ∙ ap (long_of f ((c ∷ cs) ++ rest)) (tail_ends 8 (c ∷ cs) rest p.2 less)
    ∙ long_whole f (c ∷ cs) ((c ∷ cs) ++ rest) (length (c ∷ cs)) n (take_at (c ∷ cs) rest (length (c ∷ cs)) refl) p.3 p.4

pub right_answer : (bytes : List ℕ) (r : Read) → Reads bytes r → read_of bytes ≡ r
right_answer bytes (Value n used) p =
    ap read_of (sym (take-append-drop used bytes))
    ∙ read_front (take used bytes) (drop used bytes) n p.1
    ∙ ap (Value n) (length-take-le used bytes p.0)
right_answer [] Short p = read_of-none
right_answer (f ∷ cs) Short p = read_of-high f cs p.0 ∙ ap (long_of f cs) (none_ends 8 cs p.2 (omega (arith, p.1)))
right_answer [] Over p = absurd p
right_answer (f ∷ cs) Over p =
    read_of-high f cs p.0 ∙ ap (long_of f cs) (all_stand 8 cs p.2 (omega (arith, p.1))) ∙ whole_of-over (f + added_from 4 (take 9 cs)) 10 p.3

-- ---- Reads allows the result computed

-- what the length of a tail says about its bytes
abbrev Ends : ℕ → List ℕ → Option ℕ → Type 0
Ends most cs None = (length cs ≤ most) × AllByRecursion (λ c. 128 ≤ c) cs
Ends most cs (Some k) =
    ((k ≤ most) × (k ≤ length cs) × IsTail (take k cs))
    ⊎ ((k ≡ suc most) × (most < length cs) × AllByRecursion (λ c. 128 ≤ c) (take most cs))

ends_more : (most c : ℕ) (cs : List ℕ) (o : Option ℕ) → 128 ≤ c → c < 256 → Ends most cs o → Ends (suc most) (c ∷ cs) (option_map suc o)
ends_more most c cs None le lt e = (omega (arith, e.0), (le, e.1))
ends_more most c cs (Some k) le lt (inl e) = inl (omega (arith, e.0), omega (arith, e.1), IsTail-cons c (take k cs) le lt e.2)
ends_more most c cs (Some k) le lt (inr e) = inr (ap suc e.0, omega (arith, e.1), (le, e.2))

ends : (most : ℕ) (cs : List ℕ) → IsBytes cs → Ends most cs (tail_length most cs)
ends most [] b = (omega arith, tt)
ends zero (c ∷ cs) b = inr (refl, omega arith, tt)
ends (suc most) (c ∷ cs) b =
    elim (cases_lt c 128) [
      | inl lt ↦ rw (tail_length-last (suc most) c cs lt) (inl (omega arith, omega arith, lt))
      | inr le ↦ rw (tail_length-more most c cs le) (ends_more most c cs (tail_length most cs) le (b 0) (ends most cs (λ i. b (suc i))))
    ]

-- the value of a tail that ends before its last place is small
tail_below : (most : ℕ) (t : List ℕ) → IsTail t → length t ≤ most → value_of t + 3 ≤ 2 ^ (7 * most + 1)
tail_below most [] t h = absurd t
tail_below zero (c ∷ cs) t h = absurd (omega arith)
tail_below (suc most) (c ∷ []) t h =
    let e : 7 * suc most + 1 ≡ (7 * most) + 8 = omega arith in
    let room : 2 ^ (7 * suc most + 1) ≡ 2 ^ (7 * most) * 256 = ap (λ (k : ℕ). 2 ^ k) e ∙ pow-add 2 (7 * most) 8 in
    omega (arith, pow_pos (7 * most))
tail_below (suc most) (c ∷ d ∷ cs) t h =
    let e : 7 * suc most + 1 ≡ (7 * most + 1) + 7 = omega arith in
    let room : 2 ^ (7 * suc most + 1) ≡ 2 ^ (7 * most + 1) * 128 = ap (λ (k : ℕ). 2 ^ k) e ∙ pow-add 2 (7 * most + 1) 7 in
    let less : value_of (d ∷ cs) + 3 ≤ 2 ^ (7 * most + 1) = tail_below most (d ∷ cs) t.2 (omega arith) in
    omega (arith, t.1)

-- a last place of 128 or more is too great
last_above : (most : ℕ) (cs : List ℕ) → most < length cs → 128 ≤ get_or cs most 0 → 2 ^ (7 * most + 7) ≤ value_of (take (suc most) cs)
last_above most [] h le = absurd (omega arith)
last_above zero (c ∷ cs) h le = omega arith
last_above (suc most) (c ∷ cs) h le =
    let room = room_for-suc most in
    let less : 2 ^ (7 * most + 7) ≤ value_of (take (suc most) cs) = last_above most cs (omega arith) le in
    omega arith

last_ends : (most : ℕ) (cs : List ℕ) → IsBytes cs → most < length cs → AllByRecursion (λ c. 128 ≤ c) (take most cs) → get_or cs most 0 < 128 → IsTail (take (suc most) cs)
last_ends most [] b h a lt = absurd (omega arith)
last_ends zero (c ∷ cs) b h a lt = lt
last_ends (suc most) (c ∷ cs) b h a lt = IsTail-cons c (take (suc most) cs) a.0 (b 0) (last_ends most cs (λ i. b (suc i)) (omega arith) a.1 lt)

reads_ended : (f : ℕ) (cs : List ℕ) (k : ℕ) → 240 ≤ f → f < 256 → k ≤ length cs → IsTail (take k cs) → f + added_from 4 (take k cs) < 2 ^ 64 → Reads (f ∷ cs) (long_of f cs (Some k))
reads_ended f cs k le lt fits t h =
    rw (whole_of-within (f + added_from 4 (take k cs)) (suc k) h) (omega arith, SpellsInteger-long f (take k cs) (f + added_from 4 (take k cs)) le lt t refl h)

reads_nine : (f : ℕ) (cs : List ℕ) → 240 ≤ f → f < 256 → IsBytes cs → 8 < length cs → AllByRecursion (λ c. 128 ≤ c) (take 8 cs) → Reads (f ∷ cs) (long_of f cs (Some 9))
reads_nine f cs le lt b fits a =
    elim (cases_lt (f + added_from 4 (take 9 cs)) (2 ^ 64)) [
      | inl within ↦ elim (cases_lt (get_or cs 8 0) 128) [
        | inl last ↦ reads_ended f cs 9 le lt (omega arith) (last_ends 8 cs b fits a last) within
        | inr more ↦ absurd (omega (arith, last_above 8 cs fits more, added-first (take 9 cs)))
      ]
      | inr over ↦ rw (whole_of-over (f + added_from 4 (take 9 cs)) 10 over) (le, omega arith, a, over)
    ]

reads_long : (f : ℕ) (cs : List ℕ) (o : Option ℕ) → 240 ≤ f → f < 256 → IsBytes cs → Ends 8 cs o → Reads (f ∷ cs) (long_of f cs o)
reads_long f cs None le lt b e = (le, omega (arith, e.0), e.1)
reads_long f cs (Some k) le lt b (inl e) =
    let below = tail_below 8 (take k cs) e.2 (omega (arith, length-take-le k cs e.1, e.0)) in
    reads_ended f cs k le lt e.1 e.2 (omega (arith, added-first (take k cs)))
reads_long f cs (Some k) le lt b (inr e) =
    subst (λ (j : ℕ). Reads (f ∷ cs) (long_of f cs (Some j))) (sym e.0) (reads_nine f cs le lt b e.1 e.2)

pub reads : (bytes : List ℕ) → IsBytes bytes → Reads bytes (read_of bytes)
reads [] b = rw read_of-none tt
reads (f ∷ cs) b =
    elim (cases_lt f 240) [
      | inl lt ↦ rw (read_of-low f cs lt) (omega arith, (lt, refl))
      | inr le ↦ rw (read_of-high f cs le) (reads_long f cs (tail_length 8 cs) le (b 0) (λ i. b (suc i)) (ends 8 cs (λ i. b (suc i))))
    ]

-- ---- the laws

pub again : IsReadAgain
again n rest h = read_front (spelling n) rest n (spelled n h)

number_below : (a : List ℕ) (n : ℕ) → SpellsInteger a n → n < 2 ^ 64
number_below [] n p = absurd p
number_below (f ∷ []) n p = omega (arith, p.0, p.1)
number_below (f ∷ c ∷ cs) n p = p.4

pub takes : IsSpelledAsRead
takes bytes n used b e =
    let r : Reads bytes (Value n used) = subst (λ (a : Read). Reads bytes a) e (reads bytes b) in
    let below : n < 2 ^ 64 = number_below (take used bytes) n r.1 in
    let same : take used bytes ≡ spelling n = one_spelling (take used bytes) (spelling n) n r.1 (spelled n below) in
    (sym (take-append-drop used bytes) ∙ ap (λ (t : List ℕ). t ++ drop used bytes) same, r.0, below, sym (length-take-le used bytes r.0) ∙ ap length same)

fits_more : (o : Option ℕ) (n : ℕ) → IfSome o (λ k. k ≤ n) → IfSome (option_map suc o) (λ k. k ≤ suc n)
fits_more None n h = tt
fits_more (Some k) n h = omega arith

tail_fits : (most : ℕ) (cs : List ℕ) → IfSome (tail_length most cs) (λ k. k ≤ length cs)
tail_fits most [] = tt
tail_fits zero (c ∷ cs) = omega arith
tail_fits (suc most) (c ∷ cs) =
    elim (cases_lt c 128) [
      | inl lt ↦ rw (tail_length-last (suc most) c cs lt) (omega arith)
      | inr le ↦ rw (tail_length-more most c cs le) (fits_more (tail_length most cs) (length cs) (tail_fits most cs))
    ]

tail_stays : (most : ℕ) (cs extra : List ℕ) → tail_length most cs ≢ None → tail_length most (cs ++ extra) ≡ tail_length most cs
tail_stays most [] extra h = absurd (h refl)
tail_stays zero (c ∷ cs) extra h = refl
tail_stays (suc most) (c ∷ cs) extra h =
    elim (cases_lt c 128) [
      | inl lt ↦ tail_length-last (suc most) c (cs ++ extra) lt ∙ sym (tail_length-last (suc most) c cs lt)
      | inr le ↦
          let there : tail_length most cs ≢ None = λ e. h (tail_length-more most c cs le ∙ ap (option_map suc) e) in
          tail_length-more most c (cs ++ extra) le ∙ ap (option_map suc) (tail_stays most cs extra there) ∙ sym (tail_length-more most c cs le)
    ]

long_stays : (f : ℕ) (cs extra : List ℕ) (o : Option ℕ) → IfSome o (λ k. k ≤ length cs) → long_of f cs o ≢ Short → long_of f (cs ++ extra) o ≡ long_of f cs o
long_stays f cs extra None fits h = absurd (h refl)
long_stays f cs extra (Some k) fits h = ap (λ (t : List ℕ). whole_of (f + added_from 4 t) (suc k)) (take-append-le k cs extra fits)

pub stays : StaysRead
stays [] extra h = absurd (h read_of-none)
stays (f ∷ cs) extra h =
    elim (cases_lt f 240) [
      | inl lt ↦ read_of-low f (cs ++ extra) lt ∙ sym (read_of-low f cs lt)
      | inr le ↦
          let there : tail_length 8 cs ≢ None = λ e. h (read_of-high f cs le ∙ ap (long_of f cs) e) in
          let long : long_of f cs (tail_length 8 cs) ≢ Short = λ e. h (read_of-high f cs le ∙ e) in
          read_of-high f (cs ++ extra) le
          ∙ ap (long_of f (cs ++ extra)) (tail_stays 8 cs extra there)
          ∙ long_stays f cs extra (tail_length 8 cs) (tail_fits 8 cs) long
          ∙ sym (read_of-high f cs le)
    ]
