-- Which connection of the admin port ends, and when (profile). A connection is idle while no request of it is being answered; since when
-- is a moment in milliseconds. A place without an idle connection has none.
use Rattle.std.specs.Prelude.{◌≡◌, ◌-◌, ℕ, Bool, true, false, List, None, Option, Some, nat_le, slice_get}
use Rattle.std.specs.List.{list_all}

-- 60 s have passed since then
abbrev pub is_idle_too_long : ℕ → ℕ → Bool
is_idle_too_long since now = nat_le 60000 (now - since)

-- it isn't idle, or hasn't been for longer than since `own`
abbrev pub is_no_longer : ℕ → Option ℕ → Bool
is_no_longer own None = true
is_no_longer own (Some since) = nat_le own since

-- none is idle
abbrev pub is_at_work : Option ℕ → Bool
is_at_work None = true
is_at_work (Some since) = false

-- the connection at this place is idle, and none has been for longer
abbrev pub IsLongest : List (Option ℕ) → ℕ → Type 0
IsLongest idle place = (own : ℕ) × (slice_get idle place ≡ Some (Some own)) × (list_all (is_no_longer own) idle ≡ true)
