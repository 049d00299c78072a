-- Addresses with ports, as a configuration has them (profile; the text of an IPv6 address is that of RFC 4291, section 2.2).
use Rattle.std.specs.Prelude.{◌≡◌, ◌≤◌, ◌++◌, ℕ, List, [], ◌∷◌, Some}
use Rattle.std.specs.Net.Addr.{IsLoopbackV4, IsLoopbackV6, IsWithinAt, MatchIp, ipv6_segments}
use Rattle.std.specs.Net.Grammar.{IsIpv4Text, IsIpv6Text}
use Rattle.std.specs.Net.Socket.{socket_flowinfo, socket_ip, socket_port, socket_scope_id}
use Rattle.std.specs.declared.net.ip_addr.IpAddr.{IpAddr}
use Rattle.std.specs.declared.net.ip_addr.IpAddr.TheVariants as ips
use Rattle.std.specs.declared.net.socket_addr.SocketAddr.{SocketAddr}
use Rattle.node_text.specs.Numbers.{number_of}

-- an IPv4 address, or an IPv6 address between `[` (91) and `]` (93)
abbrev pub IsHostText : List ℕ → IpAddr → Type 0
IsHostText text (ips.V4 ip) = IsIpv4Text text ip
IsHostText text (ips.V6 ip) = (inner : List ℕ) × (text ≡ 91 ∷ (inner ++ 93 ∷ [])) × IsIpv6Text inner ip

-- an address of fe80::/10, which is one of several networks of a host, and needs a zone that says which
abbrev pub IsLinkLocal : IpAddr → Type 0
IsLinkLocal (ips.V4 ip) = ⊥
IsLinkLocal (ips.V6 ip) = IsWithinAt (ipv6_segments ip) 0 0xfe80 0xfebf

-- a port from 1, no zone, and an address that needs none
abbrev pub IsAddress : SocketAddr → Type 0
IsAddress a = (1 ≤ socket_port a) × (socket_flowinfo a ≡ 0) × (socket_scope_id a ≡ 0) × (IsLinkLocal (socket_ip a) → ⊥)

-- a host, `:` (58), and a port in decimal; no zone
abbrev pub IsAddressText : List ℕ → SocketAddr → Type 0
IsAddressText word a =
    (host port : List ℕ)
    × (word ≡ host ++ 58 ∷ port)
    × IsHostText host (socket_ip a)
    × (number_of port 65535 ≡ Some (socket_port a))
    × IsAddress a

-- an address of 127.0.0.0/8, or ::1
abbrev pub IsLocal : SocketAddr → Type 0
IsLocal a = MatchIp (socket_ip a) IsLoopbackV4 IsLoopbackV6
