-- What stands before the sentence of a line: printable bytes, in which no colon has a space behind it or is the last.
use Rattle.std.proofs.Common.{◌≡◌, ◌∙◌, ◌/◌, ◌%◌, ◌^◌, ◌<◌, ◌++◌, ◌&&◌, Bool, true, false, not, ℕ, List, [], ◌∷◌, arith, flat_map, inl, inr, refl, rules}
use Rattle.std.specs.Prelude.{◌==◌, if◌then◌else◌, nat_le, nat_lt}
use Rattle.std.specs.Fmt.{decimal}
use Rattle.std.specs.List.{list_all}
use Rattle.std.proofs.lemmas.Bool.{cases_Bool, not-true}
use Rattle.std.proofs.lemmas.Bool.Decides.{nat_tests}
use Rattle.std.proofs.lemmas.Fmt.{digits_decimal}
use Rattle.std.proofs.lemmas.List.Folds.{list_all-append}
use Rattle.std.proofs.lemmas.Str.Parse.{IsNumeralModel, numerals_by_fold}
use Rattle.node_text.specs.Bytes.{digit_for, digits_of}
use Rattle.node_text.specs.Numbers.{digits_from, is_digit}
use Rattle.node_text.specs.Words.{is_text}
use Rattle.node_log.specs.Lines.{begins_with_space, behind_colon, is_printable}
use Rattle.node_log.specs.Ranges.{are_bytes}
use Rattle.node_log.specs.Values.{ends_with_colon, has_bytes, in_hexadecimal, is_plain, is_plain_byte, is_word, strange_text, word_text}

-- there is a byte, and it is no space
abbrev pub goes_on : List ℕ → Bool
goes_on [] = false
goes_on (byte ∷ rest) = not (byte == 32)

-- no colon has a space behind it, and none is the last byte
abbrev pub is_calm : List ℕ → Bool
is_calm [] = true
is_calm (byte ∷ rest) = (if byte == 58 then goes_on rest else true) && is_calm rest

pub record IsLead (text : List ℕ) : Type 0 where
  pub calm : is_calm text ≡ true
  pub printable : list_all is_printable text ≡ true

pub both : (a b : Bool) → (a && b) ≡ true → (a ≡ true) × (b ≡ true)
both true true is = (refl, refl)
both true false is = absurd (cc)
both false b is = absurd (cc)

pub and_both : (a b : Bool) → a ≡ true → b ≡ true → (a && b) ≡ true
and_both a b one other = rw (one, other) refl

-- ---- one behind the other

goes_on_more : (rest more : List ℕ) → goes_on rest ≡ true → goes_on (rest ++ more) ≡ true
goes_on_more [] more is = absurd (cc)
goes_on_more (byte ∷ rest) more is = is

calm_byte : (is : Bool) (rest more : List ℕ) → (if is then goes_on rest else true) ≡ true → (if is then goes_on (rest ++ more) else true) ≡ true
calm_byte true rest more calm = goes_on_more rest more calm
calm_byte false rest more calm = refl

calm_both : (one other : List ℕ) → is_calm one ≡ true → is_calm other ≡ true → is_calm (one ++ other) ≡ true
calm_both [] other calm calm' = calm'
calm_both (byte ∷ one) other calm calm' =
    let parts = both (if byte == 58 then goes_on one else true) (is_calm one) calm in
    and_both _ _ (calm_byte (byte == 58) one other parts.0) (calm_both one other parts.1 calm')

pub leads : (one other : List ℕ) → IsLead one → IsLead other → IsLead (one ++ other)
leads one other is is' = record {
  calm = calm_both one other is.calm is'.calm;
  printable = list_all-append is_printable one other ∙ and_both _ _ is.printable is'.printable;
}

-- ---- what stands behind

no_space : (head more : List ℕ) → goes_on head ≡ true → begins_with_space (head ++ more) ≡ false
no_space [] more is = absurd (cc)
no_space (byte ∷ head) more is = not-true (byte == 32) is

no_end : (is : Bool) (head more : List ℕ) → (if is then goes_on head else true) ≡ true → (is && begins_with_space (head ++ more)) ≡ false
no_end true head more calm = no_space head more calm
no_end false head more calm = refl

pub found_behind : (head rest : List ℕ) → is_calm head ≡ true → behind_colon (head ++ 58 ∷ 32 ∷ rest) ≡ rest
found_behind [] rest calm = refl
found_behind (byte ∷ head) rest calm =
    let parts = both (if byte == 58 then goes_on head else true) (is_calm head) calm in
    rw (no_end (byte == 58) head (58 ∷ 32 ∷ rest) parts.0) (found_behind head rest parts.1)

-- ---- words

all_so : (p q : ℕ → Bool) → ((b : ℕ) → p b ≡ true → q b ≡ true) → (bytes : List ℕ) → list_all p bytes ≡ true → list_all q bytes ≡ true
all_so p q so [] all = refl
all_so p q so (b ∷ bytes) all = let parts = both (p b) (list_all p bytes) all in and_both _ _ (so b parts.0) (all_so p q so bytes parts.1)

abbrev is_graphic : ℕ → Bool
is_graphic byte = nat_le 33 byte && nat_le byte 126

graphic_printable : (b : ℕ) → is_graphic b ≡ true → is_printable b ≡ true
graphic_printable b is = grind (arith, nat_tests)

graphic_goes_on : (colon : Bool) (b : ℕ) (rest : List ℕ) → is_graphic b ≡ true → (if colon then goes_on (b ∷ rest) else true) ≡ true
graphic_goes_on true b rest is = grind (arith, nat_tests)
graphic_goes_on false b rest is = refl

calm_word : (word : List ℕ) → is_text word ≡ true → ends_with_colon word ≡ false → is_calm word ≡ true
calm_word [] all end = refl
calm_word (b ∷ []) all end = rw end refl
calm_word (b ∷ c ∷ rest) all end =
    let parts = both (is_graphic b) (is_text (c ∷ rest)) all in
    let next = both (is_graphic c) (is_text rest) parts.1 in
    and_both _ _ (graphic_goes_on (b == 58) c rest next.0) (calm_word (c ∷ rest) parts.1 end)

word_head : (word : List ℕ) → is_word word ≡ true → IsLead word
word_head word is =
    let parts = both (has_bytes word) (not (ends_with_colon word) && is_text word) is in
    let rest = both (not (ends_with_colon word)) (is_text word) parts.1 in
    record { calm = calm_word word rest.1 (not-true (ends_with_colon word) rest.0); printable = all_so is_graphic is_printable graphic_printable word rest.1 }

-- ---- bytes without colons

abbrev pub is_other : ℕ → Bool
is_other byte = is_printable byte && not (byte == 58)

other_printable : (b : ℕ) → is_other b ≡ true → is_printable b ≡ true
other_printable b is = (both (is_printable b) (not (b == 58)) is).0

calm_others : (bytes : List ℕ) → list_all is_other bytes ≡ true → is_calm bytes ≡ true
calm_others [] all = refl
calm_others (b ∷ bytes) all =
    let parts = both (is_other b) (list_all is_other bytes) all in
    rw (not-true (b == 58) (both (is_printable b) (not (b == 58)) parts.0).1) (calm_others bytes parts.1)

others_head : (bytes : List ℕ) → list_all is_other bytes ≡ true → IsLead bytes
others_head bytes all = record { calm = calm_others bytes all; printable = all_so is_other is_printable other_printable bytes all }

plain_other : (b : ℕ) → is_plain_byte b ≡ true → is_other b ≡ true
plain_other b is = grind (arith, nat_tests)

plain_head : (name : List ℕ) → is_plain name ≡ true → IsLead name
plain_head name is = others_head name (all_so is_plain_byte is_other plain_other name (both (has_bytes name) (list_all is_plain_byte name) is).1)

-- ---- bytes in hexadecimal

digit_other : (n : ℕ) → n < 16 → is_other (digit_for n) ≡ true
digit_other n below = grind (arith, nat_tests)

digits_other : (bytes : List ℕ) → are_bytes bytes ≡ true → list_all is_other (flat_map digits_of bytes) ≡ true
digits_other [] all = refl
digits_other (b ∷ bytes) all =
    let parts = both (nat_lt b 256) (are_bytes bytes) all in
    let below : b < 256 = grind (arith, nat_tests) in
    and_both _ _ (digit_other (b / 16) (omega (arith, below))) (and_both _ _ (digit_other (b % 16) (omega arith)) (digits_other bytes parts.1))

hexadecimal_head : (bytes : List ℕ) → are_bytes bytes ≡ true → IsLead (in_hexadecimal bytes)
hexadecimal_head bytes all = others_head (in_hexadecimal bytes) (digits_other bytes all)

-- ---- values

pub word_value : (word : List ℕ) → are_bytes word ≡ true → IsLead (word_text word)
word_value word all = elim (cases_Bool (is_word word)) [
  | inl is ↦ rw is (word_head word is)
  | inr other ↦ rw other (hexadecimal_head word all)
]

pub strange_value : (name : List ℕ) → are_bytes name ≡ true → IsLead (strange_text name)
strange_value name all = elim (cases_Bool (is_plain name)) [
  | inl is ↦ rw is (plain_head name is)
  | inr other ↦ rw other (hexadecimal_head name all)
]

own : IsNumeralModel (λ digits. list_all is_digit digits ≡ true) (digits_from 0)
own = numerals_by_fold _ (search rules) digits_from (search rules)

digit_is_other : (b : ℕ) → is_digit b ≡ true → is_other b ≡ true
digit_is_other b is = grind (arith, nat_tests)

pub number_value : (n : ℕ) → nat_lt n (2 ^ 64) ≡ true → IsLead (decimal n)
number_value n small =
    let below : n < 2 ^ 64 = grind (arith, nat_tests) in
    others_head (decimal n) (all_so is_digit is_other digit_is_other (decimal n) (digits_decimal own n below))
