-- One turn of the loop that reads a number.
use Rattle.std.proofs.Common.{◌≡◌, ℕ, suc, ◌+◌, ◌-◌, ◌*◌, ◌^◌, ◌<◌, ◌≤◌, List, [], ◌∷◌, ◌++◌, length, get_or, take, drop, Option, Some, None, refl, sym, ap, ◌∙◌, arith}
use Rattle.std.specs.Option.{option_map}
use Rattle.std.proofs.lemmas.List.{drop_more, drop_all, take_more, length-take-le}
use Rattle.peers_encint.specs.Integers.{added_from, tail_length, whole_of, long_of}
use Rattle.peers_encint.proofs.ReadAsSpelled.{tail_length-last, tail_length-more}

-- how many later bytes belong to the number, if the first p of them don't end it
abbrev pub counted : ℕ → List ℕ → Option ℕ
counted p cs = option_map (λ k. p + k) (tail_length (8 - p) (drop p cs))

counted_one_more : (p : ℕ) (o : Option ℕ) → option_map (λ k. (p + 1) + k) o ≡ option_map (λ k. p + k) (option_map suc o)
counted_one_more p None = refl
counted_one_more p (Some k) = let e : (p + 1) + k ≡ p + suc k = omega arith in ap (λ (n : ℕ). Some n) e

pub counted-first : (cs : List ℕ) → counted 0 cs ≡ tail_length 8 cs
counted-first cs = same (tail_length 8 cs)
  where
    same : (o : Option ℕ) → option_map (λ k. 0 + k) o ≡ o
    same None = refl
    same (Some k) = let e : 0 + k ≡ k = omega arith in ap (λ (n : ℕ). Some n) e

pub counted-more : (p : ℕ) (cs : List ℕ) → p < 8 → p < length cs → 128 ≤ get_or cs p 0 → counted (p + 1) cs ≡ counted p cs
counted-more p cs lt fits le =
    let e : 8 - p ≡ suc (8 - (p + 1)) = omega arith in
    rw (e, drop_more cs p 0 fits, tail_length-more (8 - (p + 1)) (get_or cs p 0) (drop (p + 1) cs) le) (counted_one_more p (tail_length (8 - (p + 1)) (drop (p + 1) cs)))

pub counted-last : (p : ℕ) (cs : List ℕ) → p < length cs → get_or cs p 0 < 128 → counted p cs ≡ Some (p + 1)
counted-last p cs fits lt = rw (drop_more cs p 0 fits, tail_length-last (8 - p) (get_or cs p 0) (drop (p + 1) cs) lt) refl

pub counted-ninth : (p : ℕ) (cs : List ℕ) → p ≡ 8 → p < length cs → counted p cs ≡ Some (p + 1)
counted-ninth p cs e fits = let none : 8 - p ≡ 0 = omega arith in rw (none, drop_more cs p 0 fits) refl

pub counted-none : (p : ℕ) (cs : List ℕ) → length cs ≤ p → counted p cs ≡ None
counted-none p cs h = rw (drop_all p cs h) refl

added-append : (w : ℕ) (a : List ℕ) (c : ℕ) → added_from w (a ++ c ∷ []) ≡ added_from w a + c * 2 ^ (w + 7 * length a)
added-append w [] c = let e : w + 7 * 0 ≡ w = omega arith in rw e (omega arith)
added-append w (b ∷ a) c =
    let e : (w + 7) + 7 * length a ≡ w + 7 * suc (length a) = omega arith in
    let ih : added_from (w + 7) (a ++ c ∷ []) ≡ added_from (w + 7) a + c * 2 ^ (w + 7 * suc (length a)) = rw (← e) (added-append (w + 7) a c) in
    rw ih (omega arith)

-- one more byte adds its shifted value
pub added-more : (p : ℕ) (cs : List ℕ) → p < length cs → added_from 4 (take (p + 1) cs) ≡ added_from 4 (take p cs) + get_or cs p 0 * 2 ^ (4 + 7 * p)
added-more p cs fits =
    let len : length (take p cs) ≡ p = length-take-le p cs (omega arith) in
    ap (added_from 4) (take_more cs p 0 fits) ∙ added-append 4 (take p cs) (get_or cs p 0) ∙ ap (λ (k : ℕ). added_from 4 (take p cs) + get_or cs p 0 * 2 ^ (4 + 7 * k)) len

-- the result after the number's last byte is added
pub whole_of-last : (f : ℕ) (cs : List ℕ) (p s : ℕ) → counted p cs ≡ tail_length 8 cs → counted p cs ≡ Some (p + 1) → s ≡ f + added_from 4 (take (p + 1) cs) → whole_of s (p + 2) ≡ long_of f cs (tail_length 8 cs)
whole_of-last f cs p s all last sum =
    let used : p + 2 ≡ suc (p + 1) = omega arith in
    rw (sum, used) (ap (long_of f cs) (sym last ∙ all))
