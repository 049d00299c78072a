-- Sessions that end by the peer's doing soon after they began.
use Rattle.std.specs.Prelude.{ℕ, ◌+◌, ◌-◌, ◌^◌, Bool, true, false, not, ◌&&◌, ◌==◌, min, nat_le, Option, None, Some, if◌then◌else◌}
use Rattle.node_core.specs.declared.session_ends.SessionEnd.{SessionEnd}
use Rattle.node_core.specs.declared.session_ends.SessionEnd.TheVariants as ends
use Rattle.node_rules.specs.declared.short_sessions.ShortSessions.{ShortSessions}

-- a peer with which there was no session
abbrev pub none_short : ShortSessions
none_short = record { count = 0 }

-- the far side closed or cut it, or connected anew meanwhile, as far as this end can tell
abbrev pub is_far : SessionEnd → Bool
is_far ends.End = true
is_far ends.Device = true
is_far ends.Silent = false
is_far ends.Fault = false
is_far ends.Replaced = true
is_far ends.Error = false

-- the peer ended it, and not this node since no session may stand
abbrev pub is_peers : SessionEnd → Bool → Bool
is_peers end given_up = not given_up && is_far end

abbrev pub one_more : ℕ → ℕ
one_more n = min (n + 1) (2 ^ 64 - 1)

-- A session that lasted for 10 s ends the row. One that the peer ended sooner is one more of it.
abbrev pub count_after : SessionEnd → Bool → ℕ → ShortSessions → ShortSessions
count_after end given_up lasted s =
    if nat_le 10000 lasted then record s { count = 0 }
    else (if is_peers end given_up then record s { count = one_more s.count } else s)

-- the third in a row is told, and no later one until a session lasts
abbrev pub third : ℕ → Option ℕ
third n = if n == 3 then Some 3 else None

abbrev pub told : SessionEnd → Bool → ℕ → ShortSessions → Option ℕ
told end given_up lasted s =
    if nat_le 10000 lasted then None
    else (if is_peers end given_up then third (one_more s.count) else None)
