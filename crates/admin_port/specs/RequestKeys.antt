-- The key that a word of a request writes (profile; the text of an IPv6 address is that of RFC 4291, section 2.2).
use Rattle.std.specs.Prelude.{◌≡◌, ◌⊎◌, ℕ, List, None, Some}
use Rattle.std.specs.Net.Addr.{ipv4_octets, ipv6_octets}
use Rattle.std.specs.Net.Grammar.{IsIpText}
use Rattle.std.specs.declared.net.ip_addr.IpAddr.{IpAddr}
use Rattle.std.specs.declared.net.ip_addr.IpAddr.TheVariants as ips
use Rattle.table_types.specs.declared.key.Key.{Key}
use Rattle.table_types.specs.declared.key.Key.TheVariants as keys
use Rattle.table_types.specs.declared.key.KeyKind.{KeyKind}
use Rattle.node_text.specs.Calls.{any_key_of}

-- the key of an address
abbrev pub key_of_ip : IpAddr → Key
key_of_ip (ips.V4 ip) = keys.Ip4 (ipv4_octets ip)
key_of_ip (ips.V6 ip) = keys.Ip6 (ipv6_octets ip)

-- an address in its usual form
abbrev pub IsAddressKey : List ℕ → Key → Type 0
IsAddressKey word key = (ip : IpAddr) × IsIpText word ip × (key ≡ key_of_ip ip)

-- a key as a script has it, of a table with keys of the kind `kind`, or else an address in its usual form
abbrev pub IsKey : KeyKind → List ℕ → Key → Type 0
IsKey kind word key = (any_key_of kind word ≡ Some key) ⊎ ((any_key_of kind word ≡ None) × IsAddressKey word key)

-- the word writes no key
unfoldable pub IsNoKey : KeyKind → List ℕ → Type 0
IsNoKey kind word = (key : Key) → IsKey kind word key → ⊥
