-- A number is written in one way.
use Rattle.std.proofs.Common.{◌≡◌, ◌∙◌, ◌<◌, ◌^◌, ◌==◌, ◌&&◌, Bool, true, false, ℕ, List, [], ◌∷◌, ap, arith, get_or, length, refl, rules, sym}
use Rattle.std.specs.Prelude.{None, Option, Some, not, if◌then◌else◌, nat_le}
use Rattle.std.specs.Fmt.{decimal}
use Rattle.std.specs.List.{list_all}
use Rattle.std.proofs.lemmas.Bool.{leb-true}
use Rattle.std.proofs.lemmas.Bool.Decides.{nat_tests}
use Rattle.std.proofs.lemmas.Fmt.{decimal-digits_value}
use Rattle.std.proofs.lemmas.Str.Parse.{IsNumeralModel, numerals_by_fold}
use Rattle.node_text.specs.Numbers.{digits_from, from_one, is_digit, is_without_needless_zero, number_of}

own : IsNumeralModel (λ digits. list_all is_digit digits ≡ true) (digits_from 0)
own = numerals_by_fold _ (search rules) digits_from (search rules)

needless : (d : ℕ) → not (d == 48) ≡ true → d ≡ 48 → ⊥
needless d is zero = grind (arith, nat_tests)

first_zero : (word : List ℕ) → is_without_needless_zero word ≡ true → get_or word 0 0 ≡ 48 → length word ≡ 1
first_zero [] is zero = absurd (cc)
first_zero (d ∷ []) is zero = refl
first_zero (d ∷ e ∷ word) is zero = absurd (needless d is zero)

some_digit : (word : List ℕ) → is_without_needless_zero word ≡ true → 0 < length word
some_digit [] is = absurd (cc)
some_digit (d ∷ word) is = omega arith

tests : (a b c : Bool) (n m : ℕ) → (if a && (b && c) then Some n else None) ≡ Some m → (a ≡ true) × (b ≡ true) × (c ≡ true) × (n ≡ m)
tests true true true n m is = (refl, refl, refl, cc)
tests true true false n m is = absurd (cc)
tests true false c n m is = absurd (cc)
tests false b c n m is = absurd (cc)

some_same : (b : Bool) (m n : ℕ) → (if b then None else Some m) ≡ Some n → Some m ≡ Some n
some_same true m n is = absurd (cc)
some_same false m n is = is

not_zero : (o : Option ℕ) (n : ℕ) → from_one o ≡ Some n → o ≡ Some n
not_zero None n is = absurd (cc)
not_zero (Some m) n is = some_same (m == 0) m n is

-- the word of a number is its decimal text
pub written : (word : List ℕ) (most n : ℕ) → most < 2 ^ 64 → number_of word most ≡ Some n → word ≡ decimal n
written word most n small is =
    let (plain, digits, within, same) = tests (is_without_needless_zero word) (list_all is_digit word) (nat_le (digits_from 0 word) most) (digits_from 0 word) n is in
    let less = leb-true (digits_from 0 word) most within in
    sym (decimal-digits_value own word digits (some_digit word plain) (first_zero word plain) (omega (arith, less, small))) ∙ ap decimal same

pub written_from_one : (word : List ℕ) (most n : ℕ) → most < 2 ^ 64 → from_one (number_of word most) ≡ Some n → word ≡ decimal n
written_from_one word most n small is = written word most n small (not_zero (number_of word most) n is)
