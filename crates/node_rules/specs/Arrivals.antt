-- Which of two connections of a peer stands. Each has a number, and one that is accepted later a greater one.
use Rattle.std.specs.Prelude.{ℕ, ◌+◌, ◌-◌, ◌^◌, Bool, not, ◌&&◌, nat_le, nat_lt, min, if◌then◌else◌}
use Rattle.node_rules.specs.declared.arrivals.Kept.{Kept}
use Rattle.node_rules.specs.declared.arrivals.Kept.TheVariants as kept

-- a connection comes at once if the worker has no other one, and none came that was accepted after it
abbrev pub is_taken : ℕ → Bool → ℕ → Bool
is_taken number has_other latest = not has_other && nat_le latest number

-- the greatest number of those that came
abbrev pub offered : ℕ → Bool → ℕ → ℕ
offered number has_other latest = if is_taken number has_other latest then number else latest

-- ---- a connection that a door keeps, since it may be the one that the peer drops

abbrev pub more : ℕ → ℕ
more looks = min (looks + 1) (2 ^ 64 - 1)

-- it is dropped if its peer has dropped it, and takes the place of the other one if it wasn't over at six looks, each 50 ms after the last
abbrev pub found : Bool → ℕ → Kept
found is_over looks = if is_over then kept.IsOver else (if nat_lt (more looks) 6 then kept.Stays else kept.TakesOver)
