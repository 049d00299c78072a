-- Whose connection goes for that of another client. For each place a list says since when it has been idle, or answered, or that it isn't.
use Rattle.std.specs.Prelude.{◌≡◌, ◌⊎◌, ℕ, ◌-◌, Bool, true, false, not, nat_le, List, Option, None, Some, slice_get}
use Rattle.std.specs.List.{list_all}
use Rattle.admin_port.specs.Idle.{IsLongest, is_at_work}
use Rattle.node_rules.specs.declared.seats.Room.{Room}
use Rattle.node_rules.specs.declared.seats.Room.TheVariants as rooms

-- a place has an entry, at least `least` ago
abbrev pub is_long : ℕ → ℕ → Option (Option ℕ) → Bool
is_long least now None = false
is_long least now (Some None) = false
is_long least now (Some (Some own)) = nat_le least (now - own)

-- its entry is the earliest, and at least `least` ago
abbrev pub GoesAfter : ℕ → ℕ → List (Option ℕ) → ℕ → Type 0
GoesAfter least now since place = IsLongest since place × (is_long least now (slice_get since place) ≡ true)

-- no entry is that long ago
abbrev pub Stays : ℕ → ℕ → List (Option ℕ) → Type 0
Stays least now since = list_all (λ own. not (is_long least now (Some own))) since ≡ true

-- The connection idle longest goes, if it has been for 0.1 s; or if none has, the one whose requests have been answered longest, if they
-- have for 60 s.
abbrev pub Leaves : List (Option ℕ) → List (Option ℕ) → ℕ → ℕ → Type 0
Leaves idle answering now place = GoesAfter 100 now idle place ⊎ (Stays 100 now idle × GoesAfter 60000 now answering place)

abbrev pub NoneLeaves : List (Option ℕ) → List (Option ℕ) → ℕ → Type 0
NoneLeaves idle answering now = Stays 100 now idle × Stays 60000 now answering

abbrev pub NoneIsIdle : List (Option ℕ) → Type 0
NoneIsIdle idle = list_all is_at_work idle ≡ true

-- ---- room for another connection

-- there is room; or one goes for it; or none does
abbrev pub IsRoom : Bool → (ℕ → Type 0) → Type 0 → Room → Type 0
IsRoom fits Goes NoneGoes rooms.Free = fits ≡ true
IsRoom fits Goes NoneGoes (rooms.InPlaceOf place) = (fits ≡ false) × Goes place
IsRoom fits Goes NoneGoes rooms.Full = (fits ≡ false) × NoneGoes
