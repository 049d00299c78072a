-- Whether a peer's heartbeat stayed away.
use Rattle.std.specs.Prelude.{ℕ, Bool, ◌&&◌, nat_lt, Option, None, Some, if◌then◌else◌}

-- for how many ms nothing was read of it, of a session that had begun, if those are more than 6 s
abbrev pub missed_heartbeat : Bool → ℕ → Option ℕ
missed_heartbeat begun longest_wait = if begun && nat_lt 6000 longest_wait then Some longest_wait else None
