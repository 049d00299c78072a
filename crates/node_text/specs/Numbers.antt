-- Numbers in decimal, and moments (profile).
use Rattle.std.specs.Prelude.{◌+◌, ◌-◌, ◌*◌, ◌==◌, ◌&&◌, ℕ, Bool, true, false, not, List, [], ◌∷◌, Option, Some, None, codes, if◌then◌else◌, nat_le}
use Rattle.std.specs.Fmt.{decimal}
use Rattle.std.specs.List.{list_all}

abbrev pub is_digit : ℕ → Bool
is_digit byte = nat_le 48 byte && nat_le byte 57

-- `n`, with these digits after its own
abbrev pub digits_from : ℕ → List ℕ → ℕ
digits_from n [] = n
digits_from n (digit ∷ digits) = digits_from (n * 10 + (digit - 48)) digits

-- the only digit, or one of several that don't begin with 0 (48)
abbrev pub is_without_needless_zero : List ℕ → Bool
is_without_needless_zero [] = false
is_without_needless_zero (digit ∷ []) = true
is_without_needless_zero (digit ∷ _ ∷ _) = not (digit == 48)

-- the decimal number of at most `most` that the word writes
abbrev pub number_of : List ℕ → ℕ → Option ℕ
number_of word most =
    if is_without_needless_zero word && (list_all is_digit word && nat_le (digits_from 0 word) most)
    then Some (digits_from 0 word) else None

-- the number, unless it is 0
abbrev pub from_one : Option ℕ → Option ℕ
from_one None = None
from_one (Some number) = if number == 0 then None else Some number

-- a number, after a space (32)
abbrev pub spaced : ℕ → List ℕ
spaced number = 32 ∷ decimal number

-- a number, or `-` for none
abbrev pub number_or_dash : Option ℕ → List ℕ
number_or_dash None = codes "-"
number_or_dash (Some number) = decimal number
