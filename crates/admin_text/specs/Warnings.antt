-- What is legal in a configuration, and surely meant otherwise (profile). HAProxy's times end at 2^31 - 1 ms; the length of its strings is
-- `len` and one more; the name of a table of a peers section goes over the wire as `/` and its name, and the name of a proxy has no `/`;
-- a `stick` rule adds both server_id and server_key to its table.
use Rattle.std.specs.Prelude.{◌≡◌, ◌⊎◌, ◌<◌, ◌≤◌, ◌==◌, ◌&&◌, ◌||◌, ◌+◌, ◌*◌, ◌-◌, ◌/◌, ◌%◌, ◌^◌, ◌++◌, ℕ, Bool, true, false, not, List, [], ◌∷◌, Option, Some, None, Result, Ok, Err, bytes_eq, codes, drop, if◌then◌else◌, is_none, length, map, nat_lt, option_map, option_to_list, slice_get}
use Rattle.std.specs.Fmt.{decimal}
use Rattle.std.specs.List.{list_any}
use Rattle.std.specs.Net.Socket.{socket_ip, socket_port}
use Rattle.std.specs.Option.{option_or}
use Rattle.std.specs.declared.net.ip_addr.IpAddr.{IpAddr}
use Rattle.std.specs.declared.net.socket_addr.SocketAddr.{SocketAddr}
use Rattle.table_types.specs.declared.data_type.DataType.{DataType}
use Rattle.table_types.specs.declared.data_type.DataType.TheVariants as types
use Rattle.node_text.specs.Numbers.{number_of}
use Rattle.admin_text.specs.Before.{line_of}
use Rattle.admin_text.specs.LineKinds.{is_of_kind, is_word}
use Rattle.admin_text.specs.MeantKinds.{has_meant}
use Rattle.admin_text.specs.Networks.{address_bits, may_come}
use Rattle.admin_text.specs.PeerLines.{AreNetworks, networks_part, source_part}
use Rattle.admin_text.specs.Places.{ArePlaces, IsPlaceOf}
use Rattle.admin_text.specs.SaidLines.{AreLines}
use Rattle.admin_text.specs.Statements.{Said}
use Rattle.admin_text.specs.TableLines.{period_part}
use Rattle.admin_text.specs.declared.faults.Fault.{Fault}
use Rattle.admin_text.specs.declared.faults.FaultyLine.{FaultyLine}
use Rattle.admin_text.specs.declared.line_kinds.LineKind.TheVariants as kinds
use Rattle.admin_text.specs.declared.networks.Network.{Network}
use Rattle.admin_text.specs.declared.places.Place.{Place}
use Rattle.admin_text.specs.declared.places.Place.TheVariants as places
use Rattle.admin_text.specs.declared.warnings.WarnedLine.{WarnedLine}
use Rattle.admin_text.specs.declared.warnings.Warning.{Warning}
use Rattle.admin_text.specs.declared.warnings.Warning.TheVariants as warnings
use Rattle.admin_text.specs.declared.warnings.Warnings.{Warnings}

-- ---- addresses

abbrev pub bits_of : SocketAddr → ℕ
bits_of a = address_bits (socket_ip a)

abbrev pub has_same_port : SocketAddr → SocketAddr → Bool
has_same_port a b = socket_port a == socket_port b

abbrev pub is_same : SocketAddr → SocketAddr → Bool
is_same a b = has_same_port a b && bits_of a == bits_of b

-- 0.0.0.0, or ::
abbrev pub is_every : ℕ → Bool
is_every bits = bits == 0 || bits == 0xffff * 2 ^ 32

-- one of the host itself: one of these, one of 127.0.0.0/8, or ::1
abbrev pub is_here : ℕ → Bool
is_here bits = is_every bits || (bits == 1 || bits / 2 ^ 24 == 0xffff7f)

-- only one of the two can be listened at
abbrev pub overlaps : SocketAddr → SocketAddr → Bool
overlaps a b = has_same_port a b && (bits_of a == bits_of b || (is_every (bits_of a) || is_every (bits_of b)))

-- a connection to the first reaches what listens at the second
abbrev pub reaches : SocketAddr → SocketAddr → Bool
reaches a b =
    has_same_port a b
    && (bits_of a == bits_of b || ((is_here (bits_of a) && is_every (bits_of b)) || (is_every (bits_of a) && is_here (bits_of b))))

-- where the node listens, and takes requests, with the numbers of the lines
abbrev pub listen_in : List Place → Option (ℕ × SocketAddr)
listen_in [] = None
listen_in (places.Listen line a ∷ found) = Some (line, a)
listen_in (places.Admin line a ∷ found) = listen_in found
listen_in (places.Metrics line a ∷ found) = listen_in found
listen_in (places.Peer line a ∷ found) = listen_in found

abbrev pub admin_in : List Place → Option (ℕ × SocketAddr)
admin_in [] = None
admin_in (places.Listen line a ∷ found) = admin_in found
admin_in (places.Admin line a ∷ found) = Some (line, a)
admin_in (places.Metrics line a ∷ found) = admin_in found
admin_in (places.Peer line a ∷ found) = admin_in found

-- the first peer of a line before this one that is at the address
abbrev pub peer_at : ℕ → SocketAddr → List Place → Option ℕ
peer_at number a [] = None
peer_at number a (places.Listen line b ∷ found) = peer_at number a found
peer_at number a (places.Admin line b ∷ found) = peer_at number a found
peer_at number a (places.Metrics line b ∷ found) = peer_at number a found
peer_at number a (places.Peer line b ∷ found) = if nat_lt line number && is_same a b then Some line else peer_at number a found

-- requests come to the port at which the node listens
abbrev pub port_warning : SocketAddr → Option (ℕ × SocketAddr) → Option Warning
port_warning a None = None
port_warning a (Some other) = if has_same_port a other.1 then Some (warnings.Port other.0) else None

-- the address is one of the node's others
abbrev pub overlap_warning : SocketAddr → Option (ℕ × SocketAddr) → Option Warning
overlap_warning a None = None
overlap_warning a (Some other) = if overlaps a other.1 then Some (warnings.Overlap other.0) else None

-- a peer is where the node listens
abbrev pub own_warning : SocketAddr → Option (ℕ × SocketAddr) → Option Warning
own_warning a None = None
own_warning a (Some other) = if reaches a other.1 then Some (warnings.Own other.0) else None

-- an address among those of all lines
abbrev pub place_warning : List Place → Option Place → Option Warning
place_warning all None = None
place_warning all (Some (places.Listen number a)) = None
place_warning all (Some (places.Admin number a)) = port_warning a (listen_in all)
place_warning all (Some (places.Metrics number a)) = option_or (overlap_warning a (listen_in all)) (overlap_warning a (admin_in all))
place_warning all (Some (places.Peer number a)) =
    option_or (own_warning a (listen_in all)) (option_map warnings.Shared (peer_at number a all))

-- ---- networks

-- a peer with these networks may not come from this address, which is its own
abbrev pub outside_warning : List Network → IpAddr → Option Warning
outside_warning networks a = if may_come networks (Some a) then None else Some warnings.Outside

-- the same, if all words for networks write some
abbrev pub outside_of : Result (List Network) Fault → IpAddr → Option Warning
outside_of (Ok networks) a = outside_warning networks a
outside_of (Err fault) a = None

-- the same, of the networks that these words write
abbrev pub IsOutsideAll : List (List ℕ) → IpAddr → Option Warning → Type 0
IsOutsideAll words a warning = (networks : Result (List Network) Fault) × AreNetworks 4 words networks × (warning ≡ outside_of networks a)

-- the same, if there are words that have to be networks
abbrev pub IsOutsideIf : Option (List (List ℕ)) → IpAddr → Option Warning → Type 0
IsOutsideIf None a warning = warning ≡ None
IsOutsideIf (Some words) a warning = IsOutsideAll words a warning

-- the same, if the line with these words gives a peer this address
abbrev pub IsOutside : Option Place → List (List ℕ) → Option Warning → Type 0
IsOutside None words warning = warning ≡ None
IsOutside (Some (places.Listen number a)) words warning = warning ≡ None
IsOutside (Some (places.Admin number a)) words warning = warning ≡ None
IsOutside (Some (places.Metrics number a)) words warning = warning ≡ None
IsOutside (Some (places.Peer number a)) words warning = IsOutsideIf (networks_part (source_part (drop 2 words))) (socket_ip a) warning

-- ---- the section

-- `/` (47) comes first
abbrev pub begins_slash : Option (List ℕ) → Bool
begins_slash None = false
begins_slash (Some []) = false
begins_slash (Some (byte ∷ name)) = byte == 47

-- the line gives a table of a peers section, maybe without an id, which is a fault
abbrev pub gives_section_table : List (List ℕ) → Bool
gives_section_table words = is_of_kind kinds.Table words && (begins_slash (slice_get words 1) || begins_slash (slice_get words 2))

abbrev pub has_section_table : List Said → Bool
has_section_table lines = list_any (λ line. gives_section_table line.1) lines

-- a table of a peers section may be there: one is, or there is no table, which is a fault
abbrev pub may_use_section : List Said → Bool
may_use_section lines = is_none (line_of kinds.Table lines) || has_section_table lines

-- the section's name stands before the name of no table
abbrev pub section_warning : Bool → List (List ℕ) → Option Warning
section_warning some words = if is_of_kind kinds.Section words && not some then Some warnings.Unused else None

-- ---- tables

-- a multiple of 4 or of 10, as HAProxy's `len` mostly is
abbrev pub is_round : Option ℕ → Bool
is_round None = false
is_round (Some number) = number % 4 == 0 || number % 10 == 0

abbrev pub writes_round : Option (List ℕ) → Bool
writes_round None = false
writes_round (Some word) = is_round (number_of word 8192)

abbrev pub length_warning : List (List ℕ) → Option Warning
length_warning words =
    if is_of_kind kinds.Table words && (is_word (slice_get words 3) (codes "string") && writes_round (slice_get words 4))
    then Some warnings.Length else None

-- `/` (47) comes behind the first byte, and isn't that
abbrev pub is_in_section : Option (List ℕ) → Bool
is_in_section None = false
is_in_section (Some []) = false
is_in_section (Some (byte ∷ name)) = not (byte == 47) && list_any (λ other. other == 47) name

abbrev pub name_warning : List (List ℕ) → Option Warning
name_warning words = if is_of_kind kinds.Table words && is_in_section (slice_get words 2) then Some warnings.Section else None

-- more ms than HAProxy has
abbrev pub is_above : Option ℕ → Bool
is_above None = false
is_above (Some number) = nat_lt (2 ^ 31 - 1) number

abbrev pub is_long : Option (List ℕ) → Bool
is_long None = false
is_long (Some word) = is_above (number_of word (2 ^ 32 - 1))

abbrev pub expire_warning : List (List ℕ) → Option Warning
expire_warning words = if is_of_kind kinds.Table words && is_long (slice_get words 5) then Some warnings.Expire else None

-- the place of the first period that is long, in these words of which the first is at this place
abbrev pub long_period : ℕ → List (List ℕ) → Option ℕ
long_period place [] = None
long_period place (word ∷ words) = if is_long (period_part word) then Some place else long_period (place + 1) words

abbrev pub period_warning : List (List ℕ) → Option Warning
period_warning words = if is_of_kind kinds.Table words then option_map warnings.Period (long_period 6 (drop 6 words)) else None

-- one of the words is this one
abbrev pub has_type : List ℕ → List (List ℕ) → Bool
has_type word words = list_any (λ other. bytes_eq other word) words

-- what lacks, of server_id and server_key, where the other one is
abbrev pub lacking_type : Bool → Bool → Option DataType
lacking_type false false = None
lacking_type false true = Some types.ServerId
lacking_type true false = Some types.ServerKey
lacking_type true true = None

abbrev pub server_warning : List (List ℕ) → Option Warning
server_warning words =
    if is_of_kind kinds.Table words
    then option_map warnings.Lacks (lacking_type (has_type (codes "server_id") (drop 6 words)) (has_type (codes "server_key") (drop 6 words)))
    else None

-- ---- all lines

-- what is warned of in a line of a table with these words
abbrev pub table_warnings : List (List ℕ) → List Warning
table_warnings words =
    option_to_list (name_warning words)
    ++ (option_to_list (length_warning words)
    ++ (option_to_list (expire_warning words) ++ (option_to_list (period_warning words) ++ option_to_list (server_warning words))))

-- what is warned of in a line with these words, which gives this address: if all addresses are these, if some table is one of a peers
-- section, and if this is warned of the line's networks
abbrev pub line_warnings : List Place → Bool → Option Place → Option Warning → List (List ℕ) → List Warning
line_warnings all some place outside words =
    option_to_list (place_warning all place)
    ++ (option_to_list outside ++ (option_to_list (section_warning some words) ++ table_warnings words))

abbrev pub warned : ℕ → List Warning → List WarnedLine
warned number found = map (λ warning. record { number = number; warning = warning }) found

-- what is warned of in these lines, in order, if all addresses are these, and if some table is one of a peers section
abbrev pub AreWarnings : List Place → Bool → List Said → List WarnedLine → Type 0
AreWarnings all some [] found = found ≡ []
AreWarnings all some (line ∷ lines) found =
    (place : Option Place) × (outside : Option Warning) × (more : List WarnedLine)
    × IsPlaceOf line place
    × IsOutside place line.1 outside
    × (found ≡ warned line.0 (line_warnings all some place outside line.1) ++ more)
    × AreWarnings all some lines more

-- what begins the line of a warning, and that of one without a line
abbrev pub warned_head : WarnedLine → List ℕ
warned_head line = codes "line " ++ (decimal line.number ++ codes ": warning: ")

abbrev pub peers_heads : Bool → List (List ℕ)
peers_heads true = codes "configuration: warning: " ∷ []
peers_heads false = []

-- what is warned of in some of these lines, and a line that says each: of lines that have something, and behind them, that there are no
-- peers, if no line is even meant to be one of a peer
pub record AreWarningsAmong (some lines : List Said) (w : Warnings) : Type 0 where
  pub lines_warned : (all : List Place) × ArePlaces lines all × AreWarnings all (may_use_section lines) some w.lines.items
  pub no_peers : w.no_peers ≡ not (has_meant kinds.Peer lines)
  pub said : AreLines (map warned_head w.lines.items ++ peers_heads w.no_peers) w.said.items

-- what is warned of in these lines
abbrev pub AreWarningsOf : List Said → Warnings → Type 0
AreWarningsOf lines w = AreWarningsAmong lines lines w

-- ---- beside faults

-- nothing is warned of
pub record AreNoWarnings (w : Warnings) : Type 0 where
  pub no_lines : w.lines.items ≡ []
  pub no_peers : w.no_peers ≡ false
  pub said : w.said.items ≡ []

-- one of these faults is that of the line with this number
abbrev pub names_line : List FaultyLine → ℕ → Bool
names_line found number = list_any (λ faulty. faulty.number == number) found

-- the lines that none of these faults names
abbrev pub unnamed : List FaultyLine → List Said → List Said
unnamed found [] = []
unnamed found (line ∷ lines) = if names_line found line.0 then unnamed found lines else line ∷ unnamed found lines

-- what is warned of beside these faults: the lines that none of them names get the warnings that they get without any; of 20 faults,
-- behind which no line is looked at, there are none
abbrev pub AreWarningsBeside : List FaultyLine → List Said → Warnings → Type 0
AreWarningsBeside found lines w =
    ((length found < 20) × AreWarningsAmong (unnamed found lines) lines w) ⊎ ((20 ≤ length found) × AreNoWarnings w)
