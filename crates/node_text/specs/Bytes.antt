-- Bytes in hexadecimal (profile).
use Rattle.std.specs.Prelude.{◌+◌, ◌-◌, ◌*◌, ◌/◌, ◌%◌, ◌&&◌, ℕ, List, [], ◌∷◌, Option, Some, None, if◌then◌else◌, nat_le, nat_lt}

-- a digit of hexadecimal, in upper case
abbrev pub digit_for : ℕ → ℕ
digit_for n = if nat_lt n 10 then 48 + n else 55 + n

-- the two digits of a byte
abbrev pub digits_of : ℕ → List ℕ
digits_of byte = digit_for (byte / 16) ∷ digit_for (byte % 16) ∷ []

-- the value of a hexadecimal digit: 0 to 9, a to f, A to F
abbrev pub digit_of : ℕ → Option ℕ
digit_of byte =
    if nat_le 48 byte && nat_le byte 57 then Some (byte - 48)
    else (if nat_le 97 byte && nat_le byte 102 then Some (byte - 97 + 10)
    else (if nat_le 65 byte && nat_le byte 70 then Some (byte - 65 + 10) else None))

abbrev pub byte_before : Option ℕ → Option ℕ → Option (List ℕ) → Option (List ℕ)
byte_before (Some high) (Some low) (Some bytes) = Some ((high * 16 + low) ∷ bytes)
byte_before _ _ _ = None

-- the bytes that the word writes, two digits for each
abbrev pub bytes_of : List ℕ → Option (List ℕ)
bytes_of [] = Some []
bytes_of (digit ∷ []) = None
bytes_of (high ∷ low ∷ rest) = byte_before (digit_of high) (digit_of low) (bytes_of rest)
