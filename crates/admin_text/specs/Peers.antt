-- The names of a configuration, and its peers (profile).
use Rattle.std.specs.Prelude.{◌≡◌, ◌≤◌, ◌||◌, ◌++◌, ℕ, Bool, true, false, List, [], ◌∷◌, Option, IfSome, length, map, option_to_list}
use Rattle.std.specs.List.{AllByRecursion, list_any}
use Rattle.table_types.specs.Names.{is_name}
use Rattle.table_types.specs.Rosters.{is_same_name}
use Rattle.node_text.specs.Names.{may_name}
use Rattle.admin_text.specs.Addresses.{IsAddress}
use Rattle.admin_text.specs.declared.peers.Peer.{Peer}

-- 1 to 255 bytes of 33 to 126, and not `-`
abbrev pub IsLabel : List ℕ → Type 0
IsLabel name = (is_name name ≡ true) × (may_name name ≡ true)

-- a peer has such a name, and its address has a port, no zone, and isn't link-local
pub record IsPeer (p : Peer) : Type 0 where
  pub name : IsLabel p.name
  pub address : IfSome p.address IsAddress

-- one of the names is this one
abbrev pub has_name : List ℕ → List (List ℕ) → Bool
has_name name names = list_any (λ other. is_same_name other name) names

-- two of the names are the same
abbrev pub repeats_name : List (List ℕ) → Bool
repeats_name [] = false
repeats_name (name ∷ names) = has_name name names || repeats_name names

abbrev pub peer_names : List Peer → List (List ℕ)
peer_names peers = map (λ p. p.name) peers

-- the node's name if it has come, and those of its peers
abbrev pub names_of : Option (List ℕ) → List Peer → List (List ℕ)
names_of node peers = option_to_list node ++ peer_names peers

-- there are at most 15 peers, and no two of the node and its peers have one name
pub record AreNamed (node : Option (List ℕ)) (peers : List Peer) : Type 0 where
  pub own : IfSome node IsLabel
  pub most : length peers ≤ 15
  pub each : AllByRecursion IsPeer peers
  pub apart : repeats_name (names_of node peers) ≡ false
