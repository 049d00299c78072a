-- When the node connects to a peer, and in which version.
use Rattle.std.specs.Prelude.{ℕ, ◌*◌, ◌%◌, Bool, nat_le, max, if◌then◌else◌}
use Rattle.table_types.specs.declared.version.Version.{Version}
use Rattle.table_types.specs.declared.version.Version.TheVariants as versions
use Rattle.node_core.specs.Ticks.{later}
use Rattle.node_rules.specs.declared.attempts.Attempts.{Attempts}
use Rattle.node_rules.specs.declared.attempts.NextStep.{NextStep}
use Rattle.node_rules.specs.declared.attempts.NextStep.TheVariants as steps
use Rattle.node_rules.specs.declared.attempts.Prospect.{Prospect}

-- up to 2 s, by the last digits of the clock
abbrev pub spread : ℕ → ℕ
spread now = ((now % 2000) * 7919) % 2000

-- 2 s after the end of a session or an attempt, or later if the peer is left alone until then, and up to 2 s after that
abbrev pub next_due : ℕ → ℕ → ℕ
next_due now rests_until = later (spread now) (max (later 2000 now) rests_until)

-- A connection of the peer comes before an attempt, and neither while no session may stand.
abbrev pub next : ℕ → Prospect → Attempts → NextStep
next now p a =
    if p.paused then steps.Waits
    else (if p.arrival then steps.Takes else (if nat_le a.due now then steps.Connects else steps.Waits))

-- 2.0 at the attempt after one at which the peer refused 2.1
abbrev pub version_after : Bool → Version
version_after fell_back = if fell_back then versions.V20 else versions.V21
