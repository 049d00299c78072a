-- When a peer has defined all tables that it will.
use Rattle.std.specs.Prelude.{ℕ, ◌-◌, Bool, true, false, ◌&&◌, nat_le, Option, None, Some}
use Rattle.node_core.specs.declared.defining.Defining.{Defining}
use Rattle.node_core.specs.declared.events.ResyncEnd.{ResyncEnd}
use Rattle.node_core.specs.declared.events.ResyncEnd.TheVariants as resyncs

-- the first time that something happens, if it does so now
abbrev pub first_or : ℕ → Option ℕ → ℕ
first_or now None = now
first_or now (Some first) = first

-- a resync has ended that the peer taught
abbrev pub ended : ℕ → ResyncEnd → Defining → Defining
ended now resyncs.Finished d = record d { has_taught = true; finished = Some (first_or now d.finished) }
ended now resyncs.Incomplete d = record d { has_taught = true; finished = Some (first_or now d.finished) }
ended now resyncs.Partial d = record d { has_taught = true }
ended now resyncs.Broken d = d

-- the first of both times that there is
abbrev pub either : Option ℕ → Option ℕ → Option ℕ
either None other = other
either (Some one) other = Some one

-- from when on the peer defines its tables: from its first definition, or from when it has taught all rows without any
abbrev pub begun : Defining → Option ℕ
begun d = either d.first d.finished

-- that was 10 s ago
abbrev pub is_long_ago : ℕ → Option ℕ → Bool
is_long_ago now None = false
is_long_ago now (Some time) = nat_le 10000 (now - time)

-- it was, and the peer has taught a resync to its end
abbrev pub are_all_defined : ℕ → Defining → Bool
are_all_defined now d = d.has_taught && is_long_ago now (begun d)
