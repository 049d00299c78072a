-- Networks from which peers come (profile; IPv4-mapped addresses are those of RFC 4291, section 2.5.5.2).
use Rattle.std.specs.Prelude.{◌≡◌, ◌⊎◌, ◌+◌, ◌-◌, ◌*◌, ◌/◌, ◌^◌, ◌==◌, ◌++◌, ℕ, Bool, true, false, List, [], ◌∷◌, Contains, Option, None, Some}
use Rattle.std.specs.List.{list_any}
use Rattle.std.specs.Net.Addr.{ipv4_bits, ipv6_bits}
use Rattle.std.specs.Net.Grammar.{IsIpText}
use Rattle.std.specs.declared.net.ip_addr.IpAddr.{IpAddr}
use Rattle.std.specs.declared.net.ip_addr.IpAddr.TheVariants as ips
use Rattle.node_text.specs.Numbers.{number_of}
use Rattle.admin_text.specs.declared.networks.Network.{Network}

-- the 128 bits of an address: those of ::ffff:A.B.C.D are the bits of A.B.C.D too
abbrev pub address_bits : IpAddr → ℕ
address_bits (ips.V4 ip) = 0xffff * 2 ^ 32 + ipv4_bits ip
address_bits (ips.V6 ip) = ipv6_bits ip

-- the address has the network's bits but for the last ones, which are free
abbrev pub contains : Network → IpAddr → Bool
contains n a = address_bits a / 2 ^ n.free == n.address / 2 ^ n.free

-- how many bits an address has
abbrev pub width : IpAddr → ℕ
width (ips.V4 ip) = 32
width (ips.V6 ip) = 128

-- `host` and `bits` write the network of all addresses that share the first `bits` bits of `host`
abbrev pub IsPart : List ℕ → List ℕ → Network → Type 0
IsPart host bits n =
    (ip : IpAddr) × (count : ℕ)
    × IsIpText host ip
    × (number_of bits (width ip) ≡ Some count)
    × (n ≡ record { address = address_bits ip; free = width ip - count })

-- an address alone
abbrev pub IsOne : List ℕ → Network → Type 0
IsOne word n = (ip : IpAddr) × IsIpText word ip × (n ≡ record { address = address_bits ip; free = 0 })

-- an address without a port; or an address, `/` (47), and how many of its bits count
abbrev pub IsNetworkText : List ℕ → Network → Type 0
IsNetworkText word n =
    ((Contains word 47 → ⊥) × IsOne word n)
    ⊎ ((host bits : List ℕ) × (word ≡ host ++ 47 ∷ bits) × (Contains host 47 → ⊥) × IsPart host bits n)

-- the words write these networks, one each
abbrev pub AreNetworkTexts : List (List ℕ) → List Network → Type 0
AreNetworkTexts [] [] = Unit {0}
AreNetworkTexts [] (n ∷ networks) = ⊥
AreNetworkTexts (word ∷ words) [] = ⊥
AreNetworkTexts (word ∷ words) (n ∷ networks) = IsNetworkText word n × AreNetworkTexts words networks

-- a connection from the address may be that of a peer with these networks: any may, without a network; or else the address is in one
abbrev pub may_come : List Network → Option IpAddr → Bool
may_come [] from = true
may_come (n ∷ networks) None = false
may_come (n ∷ networks) (Some a) = list_any (λ m. contains m a) (n ∷ networks)
