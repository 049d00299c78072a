-- How long the node leaves a peer alone that breaks the protocol.
use Rattle.std.specs.Prelude.{ℕ, ◌+◌, ◌-◌, ◌^◌, nat_lt, min, Option, None, Some, if◌then◌else◌}

-- a minute from the last fault on, if that was the third within a minute
abbrev pub rests_until : Option ℕ → Option ℕ → ℕ
rests_until None second_before = 0
rests_until (Some last) None = 0
rests_until (Some last) (Some first) = if nat_lt (last - first) 60000 then min (last + 60000) (2 ^ 64 - 1) else 0
