-- Keys as HAProxy's `show table` prints them (the text of an address is that of RFC 5952).
use Rattle.std.specs.Prelude.{◌++◌, ◌==◌, ◌||◌, ◌&&◌, ℕ, List, [], ◌∷◌, flat_map, if◌then◌else◌, nat_le}
use Rattle.std.specs.Fmt.{decimal}
use Rattle.std.specs.Net.Addr.{segments_of}
use Rattle.std.specs.Net.Text.{ipv4_text, ipv6_text}
use Rattle.table_types.specs.declared.key.Key.{Key}
use Rattle.table_types.specs.declared.key.Key.TheVariants as keys
use Rattle.node_text.specs.Bytes.{digits_of}

-- a byte of a string: with a backslash (92) before a space, `=` (61) and a backslash; `\x` and two digits if it can't be printed
abbrev pub shown_byte : ℕ → List ℕ
shown_byte byte =
    if byte == 32 || (byte == 61 || byte == 92) then 92 ∷ byte ∷ []
    else (if nat_le 33 byte && nat_le byte 126 then byte ∷ [] else 92 ∷ 120 ∷ digits_of byte)

abbrev pub shown_key : Key → List ℕ
shown_key (keys.Int number) = decimal number
shown_key (keys.Ip4 octets) = ipv4_text octets
shown_key (keys.Ip6 octets) = ipv6_text (segments_of octets)
shown_key (keys.Str string) = flat_map shown_byte string
shown_key (keys.Bin bytes) = flat_map digits_of bytes
