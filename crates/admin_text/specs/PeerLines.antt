-- What the line of a peer says, or the first thing wrong with it (profile).
use Rattle.std.specs.Prelude.{◌≡◌, ◌⊎◌, ◌+◌, ◌++◌, ℕ, Bool, List, [], ◌∷◌, Option, Some, None, Result, Ok, Err, bytes_eq, codes, if◌then◌else◌, length, nat_le}
use Rattle.std.specs.Option.{option_or}
use Rattle.std.specs.declared.net.socket_addr.SocketAddr.{SocketAddr}
use Rattle.admin_text.specs.Addresses.{IsAddressText}
use Rattle.admin_text.specs.Before.{count_of, line_with}
use Rattle.admin_text.specs.NameFaults.{name_at}
use Rattle.admin_text.specs.Networks.{AreNetworkTexts, IsNetworkText}
use Rattle.admin_text.specs.Outcomes.{led_on, unless}
use Rattle.admin_text.specs.Statements.{Said}
use Rattle.admin_text.specs.declared.line_kinds.LineKind.TheVariants as kinds
use Rattle.admin_text.specs.declared.faults.Fault.{Fault}
use Rattle.admin_text.specs.declared.faults.Fault.TheVariants as faults
use Rattle.admin_text.specs.declared.networks.Network.{Network}
use Rattle.admin_text.specs.declared.peers.Peer.{Peer}
use Rattle.admin_text.specs.declared.settings.Setting.{Setting}
use Rattle.admin_text.specs.declared.settings.Setting.TheVariants as settings

-- ---- what several kinds of lines have

-- an earlier line says the same
abbrev pub repeated : Option ℕ → Option Fault
repeated None = None
repeated (Some line) = Some (faults.Repeated line)

-- an earlier line gives the name to the node or to a peer
abbrev pub taken : Option ℕ → Option Fault
taken None = None
taken (Some line) = Some (faults.Taken line)

abbrev pub named_line : List Said → List ℕ → Option ℕ
named_line before name = option_or (line_with kinds.Node 1 name before) (line_with kinds.Peer 1 name before)

abbrev pub taken_name : List Said → List ℕ → Option Fault
taken_name before name = taken (named_line before name)

-- the word at this place writes an address of which P holds, or it writes none, which is wrong
abbrev pub ReadsAddress : ℕ → List ℕ → (SocketAddr → Type 0) → Result Setting Fault → Type 0
ReadsAddress place word P outcome =
    ((a : SocketAddr) × IsAddressText word a × P a)
    ⊎ (((a : SocketAddr) → IsAddressText word a → ⊥) × (outcome ≡ Err (faults.Address place)))

-- ---- the words of a peer: NAME, NAME ADDRESS, NAME from NET.., NAME ADDRESS from NET..

abbrev pub is_from : List ℕ → Bool
is_from word = bytes_eq word (codes "from")

-- of the words behind the name, the one that has to be an address
abbrev pub address_part : List (List ℕ) → Option (List ℕ)
address_part [] = None
address_part (word ∷ words) = if is_from word then None else Some word

-- and those behind that
abbrev pub source_part : List (List ℕ) → List (List ℕ)
source_part [] = []
source_part (word ∷ words) = if is_from word then word ∷ words else words

-- of these, those that have to be networks: none, or some behind `from`
abbrev pub networks_part : List (List ℕ) → Option (List (List ℕ))
networks_part [] = Some []
networks_part (word ∷ []) = None
networks_part (word ∷ network ∷ networks) = if is_from word then Some (network ∷ networks) else None

-- the place of the first one in the line
abbrev pub first_network : Option (List ℕ) → ℕ
first_network None = 3
first_network (Some word) = 4

-- ---- what they write

-- an address, if the peer has a word for one
abbrev pub IsAddressIf : Option (List ℕ) → Result (Option SocketAddr) Fault → Type 0
IsAddressIf None outcome = outcome ≡ Ok None
IsAddressIf (Some word) (Ok None) = ⊥
IsAddressIf (Some word) (Ok (Some a)) = IsAddressText word a
IsAddressIf (Some word) (Err fault) = ((a : SocketAddr) → IsAddressText word a → ⊥) × (fault ≡ faults.Address 2)

-- networks, from words of which the first is at this place; or the first of them that writes none is wrong
abbrev pub AreNetworks : ℕ → List (List ℕ) → Result (List Network) Fault → Type 0
AreNetworks place words (Ok networks) = AreNetworkTexts words networks
AreNetworks place words (Err fault) =
    (first rest : List (List ℕ))
    × (word : List ℕ)
    × (networks : List Network)
    × (words ≡ first ++ word ∷ rest)
    × AreNetworkTexts first networks
    × ((n : Network) → IsNetworkText word n → ⊥)
    × (fault ≡ faults.Network (place + length first))

-- ---- a peer, part by part

-- a peer behind 15 others
abbrev pub peers_fault : List Said → Option Fault
peers_fault before = if nat_le 15 (count_of kinds.Peer before) then Some faults.Peers else None

abbrev pub IsPeerWith : List ℕ → Option SocketAddr → Result (List Network) Fault → Result Setting Fault → Type 0
IsPeerWith name address (Err fault) outcome = outcome ≡ Err fault
IsPeerWith name address (Ok networks) outcome =
    (p : Peer) × (p.name ≡ name) × (p.address ≡ address) × (p.from.items ≡ networks) × (outcome ≡ Ok (settings.Peer p))

abbrev pub IsPeerAt : List ℕ → ℕ → List (List ℕ) → Result (Option SocketAddr) Fault → Result Setting Fault → Type 0
IsPeerAt name place networks (Err fault) outcome = outcome ≡ Err fault
IsPeerAt name place networks (Ok address) outcome =
    (from : Result (List Network) Fault) × AreNetworks place networks from × IsPeerWith name address from outcome

abbrev pub IsPeerNamed : Option (List ℕ) → List (List ℕ) → Result (List ℕ) Fault → Result Setting Fault → Type 0
IsPeerNamed address networks (Err fault) outcome = outcome ≡ Err fault
IsPeerNamed address networks (Ok name) outcome =
    (read : Result (Option SocketAddr) Fault) × IsAddressIf address read × IsPeerAt name (first_network address) networks read outcome

-- the name: neither the node nor another peer has it
abbrev pub peer_name : List Said → List ℕ → Result (List ℕ) Fault
peer_name before name = led_on (name_at 1 name) (λ name. unless (option_or (taken_name before name) (peers_fault before)) (Ok name))

abbrev pub IsPeerOf : List Said → List ℕ → Option (List ℕ) → Option (List (List ℕ)) → Result Setting Fault → Type 0
IsPeerOf before name address None outcome = outcome ≡ Err (faults.Form kinds.Peer)
IsPeerOf before name address (Some networks) outcome = IsPeerNamed address networks (peer_name before name) outcome

-- a peer, from the words behind `peer`
abbrev pub IsPeerLine : List Said → List (List ℕ) → Result Setting Fault → Type 0
IsPeerLine before [] outcome = outcome ≡ Err (faults.Form kinds.Peer)
IsPeerLine before (name ∷ words) outcome = IsPeerOf before name (address_part words) (networks_part (source_part words)) outcome
