-- Keys as a scene has them (profile).
use Rattle.std.specs.Prelude.{◌≡◌, ◌<◌, ◌^◌, ◌-◌, ◌==◌, ◌&&◌, true, ℕ, List, [], ◌∷◌, Option, Some, None, flat_map, if◌then◌else◌, length, option_and_then, option_map}
use Rattle.std.specs.Fmt.{decimal}
use Rattle.std.specs.List.{AllByRecursion}
use Rattle.table_types.specs.declared.key.Key.{Key}
use Rattle.table_types.specs.declared.key.Key.TheVariants as keys
use Rattle.table_types.specs.declared.key.KeyKind.{KeyKind}
use Rattle.table_types.specs.declared.key.KeyKind.TheVariants as kinds
use Rattle.node_text.specs.Bytes.{bytes_of, digits_of}
use Rattle.node_text.specs.Numbers.{number_of}
use Rattle.node_text.specs.Words.{is_text}

-- ---- printed

-- `=` (61) and a text, or `~` (126) and the bytes of any other string in hexadecimal
abbrev pub string_text : List ℕ → List ℕ
string_text string = if is_text string then 61 ∷ string else 126 ∷ flat_map digits_of string

abbrev pub key_text : Key → List ℕ
key_text (keys.Int number) = decimal number
key_text (keys.Ip4 address) = flat_map digits_of address
key_text (keys.Ip6 address) = flat_map digits_of address
key_text (keys.Str string) = string_text string
key_text (keys.Bin bytes) = flat_map digits_of bytes

-- ---- read

-- an address of `n` bytes in hexadecimal
abbrev pub address_of : ℕ → List ℕ → Option (List ℕ)
address_of n word = option_and_then (λ bytes. if length bytes == n then Some bytes else None) (bytes_of word)

-- a text after `=`
abbrev pub string_of : List ℕ → Option (List ℕ)
string_of [] = None
string_of (mark ∷ string) = if mark == 61 && is_text string then Some string else None

-- the key of the kind `kind` that a word writes
abbrev pub key_of : KeyKind → List ℕ → Option Key
key_of kinds.Integer word = option_map keys.Int (number_of word (2 ^ 32 - 1))
key_of kinds.Ip4 word = option_map keys.Ip4 (address_of 4 word)
key_of kinds.Ip6 word = option_map keys.Ip6 (address_of 16 word)
key_of kinds.String word = option_map keys.Str (string_of word)
key_of kinds.Binary word = option_map keys.Bin (bytes_of word)

-- ---- printed and read again

-- each is a byte: a number below 256
abbrev pub AreBytes : List ℕ → Type 0
AreBytes bytes = AllByRecursion (λ byte. byte < 256) bytes

-- a key that a scene can write: any except a string that isn't text
abbrev pub IsWritable : Key → Type 0
IsWritable (keys.Int number) = Unit {0}
IsWritable (keys.Ip4 address) = AreBytes address
IsWritable (keys.Ip6 address) = AreBytes address
IsWritable (keys.Str string) = is_text string ≡ true
IsWritable (keys.Bin bytes) = AreBytes bytes
