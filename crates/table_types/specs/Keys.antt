-- Kinds of keys, and the keys of each (HAProxy, doc/peers-v2.0.txt, "Table Definition Message", and the Configuration
-- Manual, stick-table `type` and `len`; the bound 8192 and "below L" for a string are the profile's choices).
use Rattle.std.specs.Prelude.{ℕ, ◌^◌, Bool, false, ◌&&◌, ◌==◌, nat_lt, nat_le, List, length, codes, Option, Some, None, if◌then◌else◌}
use Rattle.std.specs.declared.cmp.Ordering.{Ordering}
use Rattle.std.specs.Ordering.{nat_cmp}
use Rattle.std.specs.Cmp.Lexicographic.{slice_cmp}
use Rattle.table_types.specs.declared.key.KeyKind.{KeyKind}
use Rattle.table_types.specs.declared.key.KeyKind.TheVariants as kinds
use Rattle.table_types.specs.declared.key.Key.{Key}
use Rattle.table_types.specs.declared.key.Key.TheVariants as keys

-- the number of a kind in a definition
abbrev pub number_of : KeyKind → ℕ
number_of kinds.Integer = 2
number_of kinds.Ip4 = 4
number_of kinds.Ip6 = 5
number_of kinds.String = 6
number_of kinds.Binary = 7

-- the kind with a number
abbrev pub kind_at : ℕ → Option KeyKind
kind_at n =
    if n == 2 then Some kinds.Integer
    else (if n == 4 then Some kinds.Ip4
    else (if n == 5 then Some kinds.Ip6
    else (if n == 6 then Some kinds.String
    else (if n == 7 then Some kinds.Binary
    else None))))

-- the word for a kind (profile)
abbrev pub kind_name : KeyKind → List ℕ
kind_name kinds.Integer = codes "integer"
kind_name kinds.Ip4 = codes "ipv4"
kind_name kinds.Ip6 = codes "ipv6"
kind_name kinds.String = codes "string"
kind_name kinds.Binary = codes "binary"

-- the key lengths that a table of a kind may have
abbrev pub fits_length : KeyKind → ℕ → Bool
fits_length kinds.Integer l = l == 4
fits_length kinds.Ip4 l = l == 4
fits_length kinds.Ip6 l = l == 16
fits_length kinds.String l = nat_le 1 l && nat_le l 8192
fits_length kinds.Binary l = nat_le 1 l && nat_le l 8192

-- the keys of a table of a kind and a key length: a number of 32 bits, an address of 4 or 16 bytes, a string shorter
-- than the key length, or bytes of exactly the key length
abbrev pub key_fits : KeyKind → ℕ → Key → Bool
key_fits kinds.Integer l (keys.Int n) = nat_lt n (2 ^ 32)
key_fits kinds.Ip4 l (keys.Ip4 bytes) = length bytes == 4
key_fits kinds.Ip6 l (keys.Ip6 bytes) = length bytes == 16
key_fits kinds.String l (keys.Str bytes) = nat_lt (length bytes) l
key_fits kinds.Binary l (keys.Bin bytes) = length bytes == l
key_fits kind l key = false

-- the position of a key's kind in the order of kinds
abbrev pub kind_rank : Key → ℕ
kind_rank (keys.Int n) = 0
kind_rank (keys.Ip4 bytes) = 1
kind_rank (keys.Ip6 bytes) = 2
kind_rank (keys.Str bytes) = 3
kind_rank (keys.Bin bytes) = 4

-- the order of keys: numbers by number, other keys byte by byte, and keys of different kinds by kind
abbrev pub key_cmp : Key → Key → Ordering
key_cmp (keys.Int a) (keys.Int b) = nat_cmp a b
key_cmp (keys.Ip4 a) (keys.Ip4 b) = slice_cmp nat_cmp a b
key_cmp (keys.Ip6 a) (keys.Ip6 b) = slice_cmp nat_cmp a b
key_cmp (keys.Str a) (keys.Str b) = slice_cmp nat_cmp a b
key_cmp (keys.Bin a) (keys.Bin b) = slice_cmp nat_cmp a b
key_cmp a b = nat_cmp (kind_rank a) (kind_rank b)
