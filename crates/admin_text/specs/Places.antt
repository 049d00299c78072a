-- The addresses that the lines of a configuration give (profile).
use Rattle.std.specs.Prelude.{◌≡◌, ◌⊎◌, ◌++◌, ℕ, List, [], ◌∷◌, Option, Some, None, drop, option_to_list, slice_get}
use Rattle.std.specs.declared.net.socket_addr.SocketAddr.{SocketAddr}
use Rattle.admin_text.specs.Addresses.{IsAddressText}
use Rattle.admin_text.specs.LineKinds.{kind_of}
use Rattle.admin_text.specs.PeerLines.{address_part}
use Rattle.admin_text.specs.Statements.{Said}
use Rattle.admin_text.specs.declared.line_kinds.LineKind.{LineKind}
use Rattle.admin_text.specs.declared.line_kinds.LineKind.TheVariants as kinds
use Rattle.admin_text.specs.declared.places.Place.{Place}
use Rattle.admin_text.specs.declared.places.Place.TheVariants as places

-- the word of a line of this kind that is an address, if there is one
abbrev pub address_word : LineKind → List (List ℕ) → Option (List ℕ)
address_word kinds.Listen words = slice_get words 1
address_word kinds.Admin words = slice_get words 1
address_word kinds.Metrics words = slice_get words 1
address_word kinds.Peer words = address_part (drop 2 words)
address_word kinds.Node words = None
address_word kinds.Socket words = None
address_word kinds.Section words = None
address_word kinds.Table words = None
address_word kinds.Size words = None
address_word kinds.Nopurge words = None
address_word kinds.Log words = None
address_word kinds.Journal words = None

-- an address that a line of this kind gives
abbrev pub place_at : LineKind → ℕ → SocketAddr → Option Place
place_at kinds.Listen number a = Some (places.Listen number a)
place_at kinds.Admin number a = Some (places.Admin number a)
place_at kinds.Metrics number a = Some (places.Metrics number a)
place_at kinds.Peer number a = Some (places.Peer number a)
place_at kinds.Node number a = None
place_at kinds.Socket number a = None
place_at kinds.Section number a = None
place_at kinds.Table number a = None
place_at kinds.Size number a = None
place_at kinds.Nopurge number a = None
place_at kinds.Log number a = None
place_at kinds.Journal number a = None

-- what the word writes, if it writes an address
abbrev pub IsPlaceIn : LineKind → ℕ → Option (List ℕ) → Option Place → Type 0
IsPlaceIn kind number None place = place ≡ None
IsPlaceIn kind number (Some word) place =
    ((a : SocketAddr) × IsAddressText word a × (place ≡ place_at kind number a))
    ⊎ (((a : SocketAddr) → IsAddressText word a → ⊥) × (place ≡ None))

abbrev pub IsPlaceAt : Option LineKind → Said → Option Place → Type 0
IsPlaceAt None line place = place ≡ None
IsPlaceAt (Some kind) line place = IsPlaceIn kind line.0 (address_word kind line.1) place

-- the address that the line gives, if it gives one
abbrev pub IsPlaceOf : Said → Option Place → Type 0
IsPlaceOf line place = IsPlaceAt (kind_of line.1) line place

-- those that these lines give
abbrev pub ArePlaces : List Said → List Place → Type 0
ArePlaces [] found = found ≡ []
ArePlaces (line ∷ lines) found =
    (place : Option Place) × (more : List Place) × IsPlaceOf line place × (found ≡ option_to_list place ++ more) × ArePlaces lines more
