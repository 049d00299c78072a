-- How long a page is kept.
use Rattle.std.specs.Prelude.{ℕ, ◌-◌, Bool, nat_lt}

-- the page was made less than a second ago
abbrev pub is_kept : ℕ → ℕ → Bool
is_kept made now = nat_lt (now - made) 1000
