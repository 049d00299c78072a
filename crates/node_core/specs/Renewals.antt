-- For how long sessions end so that a table may get new numbers. No session may stand since a moment, if there is one; and if that was given
-- up, sessions stand until a later one.
use Rattle.std.specs.Prelude.{ℕ, ◌+◌, ◌-◌, ◌^◌, Bool, true, false, Option, None, Some, min, nat_lt, if◌then◌else◌}
use Rattle.node_core.specs.declared.renewals.Renewing.{Renewing}
use Rattle.node_core.specs.declared.renewals.Renewing.TheVariants as outcomes

-- while a table waits, sessions end for 5 s; then they stand for a minute
abbrev pub outcome : Option ℕ → ℕ → Bool → ℕ → Renewing
outcome since rest false now = outcomes.Stand
outcome None rest true now = if nat_lt now rest then outcomes.Stand else outcomes.Pause
outcome (Some since) rest true now = if nat_lt (now - since) 5000 then outcomes.Pause else outcomes.GiveUp

-- since when no session may stand
abbrev pub since_after : Option ℕ → ℕ → Bool → ℕ → Option ℕ
since_after since rest false now = None
since_after None rest true now = if nat_lt now rest then None else Some now
since_after (Some since) rest true now = if nat_lt (now - since) 5000 then Some since else None

-- until when sessions stand
abbrev pub rest_after : Option ℕ → ℕ → Bool → ℕ → ℕ
rest_after since rest false now = rest
rest_after None rest true now = rest
rest_after (Some since) rest true now = if nat_lt (now - since) 5000 then rest else min (now + 60000) (2 ^ 64 - 1)

-- whether it was given up since a table waits
abbrev pub given_up_after : Option ℕ → Bool → Bool → ℕ → Bool
given_up_after since given_up false now = false
given_up_after None given_up true now = given_up
given_up_after (Some since) given_up true now = if nat_lt (now - since) 5000 then given_up else true
