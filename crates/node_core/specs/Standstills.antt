-- Whether the node itself was held up, by when it looks at the clock.
use Rattle.std.specs.Prelude.{◌-◌, ℕ, Option, None, Some, if◌then◌else◌, nat_lt}

-- for how many ms, if the last look was more than 2 s ago
abbrev pub held_up : ℕ → ℕ → Option ℕ
held_up last now = if nat_lt 2000 (now - last) then Some (now - last) else None
