-- The resyncs of a session, as its log and its metrics tell them.
use Rattle.std.specs.Prelude.{ℕ, ◌-◌, Bool, true, false, not, ◌&&◌, ◌||◌, ◌==◌, nat_lt, Option, None, Some, if◌then◌else◌}
use Rattle.node_core.specs.declared.events.ResyncEnd.{ResyncEnd}
use Rattle.node_core.specs.declared.events.ResyncEnd.TheVariants as ends
use Rattle.node_rules.specs.declared.resyncs.Learning.{Learning}
use Rattle.node_rules.specs.declared.resyncs.Resync.{Resync}
use Rattle.node_rules.specs.declared.resyncs.ResyncsHeard.{ResyncsHeard}
use Rattle.node_rules.specs.declared.resyncs.Teaching.{Teaching}

-- a node that is up to date and has left no table has taught all rows
abbrev pub resync_end : Bool → Bool → ResyncEnd
resync_end up_to_date has_left = if up_to_date && not has_left then ends.Finished else ends.Partial

-- a peer that has defined some tables, but not all of this node's as it does, can't teach all rows; one that has defined none has no rows
abbrev pub lacks_tables : ℕ → Bool → Bool
lacks_tables defined alike = not (defined == 0 || alike)

-- such a peer hasn't taught all rows, whatever it says
abbrev pub counts_as : Bool → ResyncEnd → ResyncEnd
counts_as lacks ends.Finished = if lacks then ends.Incomplete else ends.Finished
counts_as lacks ends.Incomplete = ends.Incomplete
counts_as lacks ends.Partial = ends.Partial
counts_as lacks ends.Broken = ends.Broken

-- ---- the node is the teacher

abbrev pub nothing_taught : Teaching
nothing_taught = record { under_way = false; taught = 0; ended = 0; before = 0; since = 0 }

-- one that wasn't under way at the last look has begun since, before any row that was taught since
abbrev pub rows_before : Teaching → ℕ
rows_before t = if t.under_way then t.before else t.taught

abbrev pub begun_at : ℕ → Teaching → ℕ
begun_at now t = if t.under_way then t.since else now

-- one has ended since the last look
abbrev pub over : ℕ → ℕ → ℕ → Teaching → Option Resync
over now taught ended t = if nat_lt t.ended ended then Some (record { rows = taught - rows_before t; milliseconds = now - begun_at now t }) else None

-- behind one that has ended another one begins now, if it does
abbrev pub looked : ℕ → ℕ → ℕ → Bool → Teaching → Teaching
looked now taught ended under_way t = record {
  under_way = under_way;
  taught = taught;
  ended = ended;
  before = if nat_lt t.ended ended then taught else rows_before t;
  since = if nat_lt t.ended ended then now else begun_at now t;
}

-- the session ends
abbrev pub broken : ℕ → ℕ → Teaching → Option Resync
broken now taught t = if t.under_way then Some (record { rows = taught - t.before; milliseconds = now - t.since }) else None

-- ---- the node is the learner

abbrev pub nothing_asked : Learning
nothing_asked = record { asked = None; before = 0; since = 0 }

-- of a peer that was asked before and hasn't answered the same resync goes on
abbrev pub asked_by : Option ResyncsHeard → ℕ → ℕ → ResyncsHeard → Learning → Learning
asked_by None now learned heard l = record { asked = Some heard; before = learned; since = now }
asked_by (Some before) now learned heard l = record l { asked = Some heard }

abbrev pub asked : ℕ → ℕ → ResyncsHeard → Learning → Learning
asked now learned heard l = asked_by l.asked now learned heard l

-- it has ended one as finished since it was last asked, or else one as partial
abbrev pub end_of : ResyncsHeard → Option ResyncsHeard → Option ResyncEnd
end_of heard None = None
end_of heard (Some asked) =
    if nat_lt asked.finished heard.finished then Some ends.Finished
    else (if nat_lt asked.partial heard.partial then Some ends.Partial else None)

abbrev pub learned_in : ℕ → ℕ → Learning → Resync
learned_in now learned l = record { rows = learned - l.before; milliseconds = now - l.since }
