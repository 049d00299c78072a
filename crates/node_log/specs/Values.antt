-- Values of keys, and sentences.
use Rattle.std.specs.Prelude.{ℕ, Bool, true, false, not, ◌&&◌, ◌||◌, ◌==◌, List, [], ◌∷◌, flat_map, if◌then◌else◌, nat_le}
use Rattle.std.specs.List.{list_all}
use Rattle.node_text.specs.Bytes.{digits_of}
use Rattle.node_text.specs.Words.{is_text}

-- the last byte is a colon (58)
abbrev pub ends_with_colon : List ℕ → Bool
ends_with_colon [] = false
ends_with_colon (byte ∷ []) = byte == 58
ends_with_colon (byte ∷ next ∷ rest) = ends_with_colon (next ∷ rest)

abbrev pub has_bytes : List ℕ → Bool
has_bytes [] = false
has_bytes (byte ∷ rest) = true

-- a word as lines have it: printable bytes without a space, and no colon at the end, which a space would follow
abbrev pub is_word : List ℕ → Bool
is_word bytes = has_bytes bytes && (not (ends_with_colon bytes) && is_text bytes)

-- a letter, a digit, `-` (45), `_` (95), `.` (46) or `/` (47)
abbrev pub is_plain_byte : ℕ → Bool
is_plain_byte byte =
    (nat_le 97 byte && nat_le byte 122) || ((nat_le 65 byte && nat_le byte 90) || ((nat_le 48 byte && nat_le byte 57)
    || (byte == 45 || (byte == 95 || (byte == 46 || byte == 47)))))

abbrev pub is_plain : List ℕ → Bool
is_plain name = has_bytes name && list_all is_plain_byte name

-- `0x` and the bytes
abbrev pub in_hexadecimal : List ℕ → List ℕ
in_hexadecimal bytes = 48 ∷ 120 ∷ flat_map digits_of bytes

-- a word that the configuration or the program has
abbrev pub word_text : List ℕ → List ℕ
word_text word = if is_word word then word else in_hexadecimal word

-- a name that the configuration doesn't have
abbrev pub strange_text : List ℕ → List ℕ
strange_text name = if is_plain name then name else in_hexadecimal name

-- the byte, or `?` (63) if it can't be printed
abbrev pub printable : ℕ → ℕ
printable byte = if nat_le 32 byte && nat_le byte 126 then byte else 63
