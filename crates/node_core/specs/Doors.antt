-- Which door closes its connection if another one comes.
use Rattle.std.specs.Prelude.{ℕ, Bool, false, ◌&&◌, nat_le, nat_lt, List, take, drop, Option, None, Some, slice_get}
use Rattle.std.specs.List.{list_all}

-- this door isn't free, and its connection hasn't been silent for longer than `own`
abbrev pub is_later : ℕ → Option ℕ → Bool
is_later own None = false
is_later own (Some since) = nat_le own since

-- this door isn't free, and its connection has been silent for less long than `own`
abbrev pub is_shorter : ℕ → Option ℕ → Bool
is_shorter own None = false
is_shorter own (Some since) = nat_lt own since

abbrev pub is_longest_of : List (Option ℕ) → ℕ → Option (Option ℕ) → Bool
is_longest_of silent door None = false
is_longest_of silent door (Some None) = false
is_longest_of silent door (Some (Some own)) = list_all (is_shorter own) (take door silent) && list_all (is_later own) (drop door silent)

-- no door is free, and this one is the first of those whose connections have been silent longest
abbrev pub is_longest : List (Option ℕ) → ℕ → Bool
is_longest silent door = is_longest_of silent door (slice_get silent door)
