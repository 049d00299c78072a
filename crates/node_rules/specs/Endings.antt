-- When a session ends for what happens outside it.
use Rattle.std.specs.Prelude.{ℕ, ◌+◌, ◌-◌, ◌^◌, Bool, true, false, not, ◌&&◌, ◌||◌, nat_le, nat_lt, min, Option, None, Some, if◌then◌else◌}
use Rattle.node_core.specs.declared.session_ends.SessionEnd.{SessionEnd}
use Rattle.node_core.specs.declared.session_ends.SessionEnd.TheVariants as ends
use Rattle.node_rules.specs.declared.ending.Closing.{Closing}
use Rattle.node_rules.specs.declared.ending.Closing.TheVariants as closings
use Rattle.node_rules.specs.declared.ending.Ending.{Ending}
use Rattle.node_rules.specs.declared.ending.LastWait.{LastWait}
use Rattle.node_rules.specs.declared.ending.Outside.{Outside}

-- a session whose hello isn't over
abbrev pub started : Ending
started = record { begun = None; stopping = false; idle = 0 }

abbrev pub first_or : ℕ → Option ℕ → Option ℕ
first_or now None = Some now
first_or now (Some begun) = Some begun

-- its hello is over
abbrev pub begun : ℕ → Ending → Ending
begun now e = record e { begun = first_or now e.begun }

-- a turn, in which there was nothing to do or was
abbrev pub turned : Bool → Ending → Ending
turned idled e = record e { idle = if idled then min (e.idle + 1) (2 ^ 64 - 1) else 0 }

-- ---- the stop of the node

-- the hello was over less than 0.3 s ago, so turns don't push rows yet
abbrev pub is_young : ℕ → Option ℕ → Bool
is_young now None = false
is_young now (Some begun) = nat_lt (now - begun) 300

-- the node stops, and the session's turns push rows
abbrev pub sees_stop : ℕ → Bool → Ending → Bool
sees_stop now stops e = stops && not (is_young now e.begun)

-- when that is seen first, the turns with nothing to do are counted anew
abbrev pub looked : ℕ → Bool → Ending → Ending
looked now stops e = if sees_stop now stops e && not e.stopping then record e { stopping = true; idle = 0 } else e

-- since it was seen, there were as many turns in a row with nothing to do as there are tables, and the peer has acknowledged all
abbrev pub has_taught_all : ℕ → Bool → ℕ → Bool → Ending → Bool
has_taught_all now stops tables acknowledged e = sees_stop now stops e && (nat_le tables (looked now stops e).idle && acknowledged)

-- ---- the time for that

-- a node that stops begins to wait
abbrev pub waits_from : ℕ → LastWait
waits_from now = record { since = now; looks = 0 }

-- it hasn't waited for 3 s yet, nor looked 300 times, 10 ms apart
abbrev pub has_time : ℕ → LastWait → Bool
has_time now w = nat_lt (now - w.since) 3000 && nat_lt w.looks 300

-- it waits for the sessions that stand, and then ends those that still do
abbrev pub waits_on : Bool → ℕ → LastWait → Bool
waits_on stands now w = stands && has_time now w

abbrev pub another_look : LastWait → LastWait
another_look w = record w { looks = min (w.looks + 1) (2 ^ 64 - 1) }

-- ---- why a session ends

-- another connection of the peer waits; or no session may stand, or the node stops and this one has taught all
abbrev pub interruption : ℕ → Outside → ℕ → Bool → Ending → Option SessionEnd
interruption now o tables acknowledged e =
    if o.replaced then Some ends.Replaced
    else (if o.paused || has_taught_all now o.stops tables acknowledged e then Some ends.End else None)

-- why the node closes one itself: a table gets new numbers, or the node stops and this one has taught all, or isn't waited for any longer
abbrev pub closing_of : Option SessionEnd → Bool → Bool → Option Closing
closing_of (Some ends.End) paused cut = Some (if paused then closings.Renewal else closings.Taught)
closing_of (Some ends.Silent) paused cut = None
closing_of (Some ends.Fault) paused cut = None
closing_of (Some ends.Replaced) paused cut = None
closing_of (Some ends.Device) paused cut = None
closing_of (Some ends.Error) paused cut = None
closing_of None paused cut = if cut then Some closings.Cut else None
