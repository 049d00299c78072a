-- What is printed is read as what it was.
use Rattle.std.proofs.Common.{◌≡◌, ◌∙◌, ◌+◌, ◌-◌, ◌*◌, ◌/◌, ◌%◌, ◌^◌, ◌<◌, ◌≤◌, inl, inr, true, false, ℕ, List, [], ◌∷◌, ap, arith, flat_map, get_or, refl, rules}
use Rattle.std.specs.Prelude.{IfSome, None, Option, Some, option_map}
use Rattle.std.specs.Fmt.{decimal}
use Rattle.std.specs.List.{list_all}
use Rattle.std.proofs.lemmas.Bool.{cases_lt, le-leb}
use Rattle.std.proofs.lemmas.Bool.Decides.{nat_tests}
use Rattle.std.proofs.lemmas.Fmt.{decimal_digit, digits_decimal, digits_value-decimal, first_decimal}
use Rattle.std.proofs.lemmas.Str.Parse.{IsNumeralModel, numerals_by_fold}
use Rattle.table_types.specs.declared.key.Key.{Key}
use Rattle.table_types.specs.declared.key.Key.TheVariants as keys
use Rattle.table_types.specs.declared.key.KeyKind.{KeyKind}
use Rattle.table_types.specs.declared.key.KeyKind.TheVariants as kinds
use Rattle.table_types.specs.Keys.{key_fits}
use Rattle.node_text.specs.Bytes.{byte_before, bytes_of, digit_for, digit_of, digits_of}
use Rattle.node_text.specs.Keys.{AreBytes, IsWritable, key_of, key_text}
use Rattle.node_text.specs.Names.{is_dash}
use Rattle.node_text.specs.Numbers.{digits_from, is_digit, is_without_needless_zero, number_of, number_or_dash}
use Rattle.node_text.specs.Updates.{life_of}

-- ---- bytes in hexadecimal

digit_again : (n : ℕ) → n < 16 → digit_of (digit_for n) ≡ Some n
digit_again n below = grind (arith, nat_tests)

byte_again : (b : ℕ) (bytes : List ℕ) → b < 256 → byte_before (digit_of (digit_for (b / 16))) (digit_of (digit_for (b % 16))) (Some bytes) ≡ Some (b ∷ bytes)
byte_again b bytes below =
    let sum : b / 16 * 16 + b % 16 ≡ b = omega arith in
    rw (digit_again (b / 16) (omega arith), digit_again (b % 16) (omega arith)) (ap (λ n. Some (n ∷ bytes)) sum)

pub bytes_again : (bytes : List ℕ) → AreBytes bytes → bytes_of (flat_map digits_of bytes) ≡ Some bytes
bytes_again [] are = refl
bytes_again (b ∷ bytes) (is, are) =
    ap (byte_before (digit_of (digit_for (b / 16))) (digit_of (digit_for (b % 16)))) (bytes_again bytes are) ∙ byte_again b bytes is

-- ---- numbers

own : IsNumeralModel (λ digits. list_all is_digit digits ≡ true) (digits_from 0)
own = numerals_by_fold _ (search rules) digits_from (search rules)

first_not_zero : (digits : List ℕ) → 48 < get_or digits 0 0 → is_without_needless_zero digits ≡ true
first_not_zero [] first = absurd (omega arith)
first_not_zero (d ∷ []) first = refl
first_not_zero (d ∷ e ∷ digits) first = grind (arith, nat_tests)

needs_no_zero : (n : ℕ) → n < 2 ^ 64 → is_without_needless_zero (decimal n) ≡ true
needs_no_zero n small = elim (cases_lt 0 n) [
  | inl some ↦ first_not_zero (decimal n) (first_decimal n some small)
  | inr none ↦ let zero : n ≡ 0 = omega arith in ap (λ m. is_without_needless_zero (decimal m)) zero ∙ ap is_without_needless_zero (decimal_digit 0 (omega arith))
]

pub numbers_again : (n most : ℕ) → n ≤ most → n < 2 ^ 64 → number_of (decimal n) most ≡ Some n
numbers_again n most within small =
    let value : digits_from 0 (decimal n) ≡ n = digits_value-decimal own n small in
    rw (needs_no_zero n small, digits_decimal own n small, value, le-leb n most within) refl

-- ---- lives

not_dash : (word : List ℕ) (most n : ℕ) → number_of word most ≡ Some n → is_dash word ≡ false
not_dash [] most n is = refl
not_dash (b ∷ []) most n is = grind (arith, nat_tests)
not_dash (b ∷ c ∷ word) most n is = refl

pub lives_again : (life : Option ℕ) → IfSome life (λ milliseconds. milliseconds < 2 ^ 32) → life_of (number_or_dash life) ≡ Some life
lives_again None below = refl
lives_again (Some n) below =
    let read = numbers_again n (2 ^ 32 - 1) (omega (arith, below)) (omega (arith, below)) in
    rw (not_dash (decimal n) (2 ^ 32 - 1) n read) (ap (option_map Some) read)

-- ---- keys

pub keys_again : (kind : KeyKind) (key_length : ℕ) (key : Key) → key_fits kind key_length key ≡ true → IsWritable key → key_of kind (key_text key) ≡ Some key
keys_again kinds.Integer l (keys.Int n) fits is =
    let below : n < 2 ^ 32 = grind (arith, nat_tests) in
    ap (option_map keys.Int) (numbers_again n (2 ^ 32 - 1) (omega (arith, below)) (omega (arith, below)))
keys_again kinds.Ip4 l (keys.Ip4 address) fits are = rw (bytes_again address are, fits) refl
keys_again kinds.Ip6 l (keys.Ip6 address) fits are = rw (bytes_again address are, fits) refl
keys_again kinds.String l (keys.Str string) fits is = rw (is, is) refl
keys_again kinds.Binary l (keys.Bin bytes) fits are = ap (option_map keys.Bin) (bytes_again bytes are)
keys_again kind l key fits is = cc
