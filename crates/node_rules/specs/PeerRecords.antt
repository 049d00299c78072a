-- What is known of a peer and its sessions.
use Rattle.std.specs.Prelude.{ℕ, ◌+◌, ◌-◌, ◌^◌, Bool, true, false, min, Option, None, Some, if◌then◌else◌}
use Rattle.table_types.specs.declared.version.Version.{Version}
use Rattle.admin_port.specs.declared.reports.PeerRole.{PeerRole}
use Rattle.admin_port.specs.declared.reports.PeerState.{PeerState}
use Rattle.admin_port.specs.declared.reports.PeerState.TheVariants as states
use Rattle.admin_port.specs.declared.peer_metrics.ResyncsEnded.{ResyncsEnded}
use Rattle.admin_port.specs.declared.peer_metrics.SessionsEnded.{SessionsEnded}
use Rattle.node_core.specs.declared.events.ResyncEnd.{ResyncEnd}
use Rattle.node_core.specs.declared.events.ResyncEnd.TheVariants as resyncs
use Rattle.node_core.specs.declared.last_errors.LastError.{LastError}
use Rattle.node_core.specs.declared.last_errors.LastError.TheVariants as errors
use Rattle.node_core.specs.declared.reaching.Failure.{Failure}
use Rattle.node_core.specs.declared.reaching.Failure.TheVariants as failures
use Rattle.node_core.specs.declared.session_ends.SessionEnd.{SessionEnd}
use Rattle.node_core.specs.declared.session_ends.SessionEnd.TheVariants as ends
use Rattle.node_core.specs.Processes.{pid_after}
use Rattle.node_core.specs.Reaching.{untried}
use Rattle.node_rules.specs.declared.peer_record.FaultTimes.{FaultTimes}
use Rattle.node_rules.specs.declared.peer_record.PeerRecord.{PeerRecord}

-- ---- counts

-- one more, unless the count is full
abbrev pub count_more : ℕ → ℕ
count_more n = min (n + 1) (2 ^ 64 - 1)

abbrev pub counted : ResyncEnd → ResyncsEnded → ResyncsEnded
counted resyncs.Finished n = record n { finished = count_more n.finished }
counted resyncs.Incomplete n = record n { partial = count_more n.partial }
counted resyncs.Partial n = record n { partial = count_more n.partial }
counted resyncs.Broken n = record n { broken = count_more n.broken }

abbrev pub counted_end : SessionEnd → SessionsEnded → SessionsEnded
counted_end ends.End n = record n { end = count_more n.end }
counted_end ends.Silent n = record n { silent = count_more n.silent }
counted_end ends.Fault n = record n { fault = count_more n.fault }
counted_end ends.Replaced n = record n { replaced = count_more n.replaced }
counted_end ends.Device n = record n { device = count_more n.device }
counted_end ends.Error n = record n { error = count_more n.error }

abbrev pub no_resyncs : ResyncsEnded
no_resyncs = record { finished = 0; partial = 0; broken = 0 }

abbrev pub no_sessions : SessionsEnded
no_sessions = record { end = 0; silent = 0; fault = 0; replaced = 0; device = 0; error = 0 }

-- ---- a peer with which there was no session

abbrev pub unknown : PeerRecord
unknown = record {
  state = states.Down;
  teaches = false;
  role = None;
  version = None;
  since = 0;
  sessions = 0;
  faults = 0;
  last_end = None;
  last_error = None;
  ended = no_sessions;
  resyncs_taught = no_resyncs;
  resyncs_learned = no_resyncs;
  faulted = record { last = None; before = None; second_before = None };
  pid = record { pid = None };
  reaching = untried;
}

-- ---- what is told

abbrev pub is_up : PeerState → Bool
is_up states.Down = false
is_up states.Asking = true
is_up states.Ready = true
is_up states.Teaching = true

-- there is a session whose hello is over
abbrev pub stands : PeerRecord → Bool
stands r = is_up r.state

abbrev pub shown_role : PeerRecord → Option PeerRole
shown_role r = if stands r then r.role else None

-- ---- attempts

-- why there is no session after an attempt with this failure, by the name of its event in the log
abbrev pub error_after : Failure → LastError
error_after (failures.Unreachable reason) = errors.Unreachable
error_after (failures.Refused status) = errors.Refused status
error_after (failures.NoSession cause) = errors.Unreachable

-- it is known why there is no session, unless there is one
abbrev pub known_error : LastError → PeerRecord → PeerRecord
known_error error r = if stands r then r else record r { last_error = Some error }

abbrev pub tried : PeerRecord → PeerRecord
tried r = record r { reaching = record r.reaching { tried = true } }

abbrev pub failed : Failure → PeerRecord → PeerRecord
failed failure r = known_error (error_after failure) (record r { reaching = record r.reaching { failure = Some failure } })

abbrev pub refused : ℕ → PeerRecord → PeerRecord
refused status r = known_error (errors.HelloRefused status) (record r { reaching = record r.reaching { refusal = Some status } })

-- ---- sessions

abbrev pub connected : PeerRole → PeerRecord → PeerRecord
connected role r = record r { role = Some role }

-- a session begins, after which nothing that failed before is news of the past
abbrev pub begun : ℕ → Option Version → Option ℕ → PeerRecord → PeerRecord
begun now version pid r = record r {
  state = states.Ready;
  since = now;
  version = version;
  sessions = count_more r.sessions;
  reaching = untried;
  last_error = None;
  pid = record { pid = pid_after r.pid.pid pid };
}

-- the peer was asked for a resync that isn't over; or the node teaches in one; or neither
abbrev pub state_of : Bool → Bool → PeerState
state_of asking teaching = if asking then states.Asking else (if teaching then states.Teaching else states.Ready)

abbrev pub gone_on : Bool → Bool → PeerRecord → PeerRecord
gone_on asking teaching r = if stands r then record r { state = state_of asking teaching; teaches = teaching } else r

abbrev pub taught : ResyncEnd → PeerRecord → PeerRecord
taught end r = record r { resyncs_taught = counted end r.resyncs_taught }

abbrev pub learned : ResyncEnd → PeerRecord → PeerRecord
learned end r = record r { resyncs_learned = counted end r.resyncs_learned }

-- ---- ends

abbrev pub after_another : ℕ → FaultTimes → FaultTimes
after_another now t = record { last = Some now; before = t.last; second_before = t.before }

abbrev pub is_fault : SessionEnd → Bool
is_fault ends.Fault = true
is_fault ends.End = false
is_fault ends.Silent = false
is_fault ends.Replaced = false
is_fault ends.Device = false
is_fault ends.Error = false

abbrev pub is_replaced : SessionEnd → Bool
is_replaced ends.Replaced = true
is_replaced ends.End = false
is_replaced ends.Silent = false
is_replaced ends.Fault = false
is_replaced ends.Device = false
is_replaced ends.Error = false

-- why a connection ended, and when if by a fault
abbrev pub late : SessionEnd → ℕ → PeerRecord → PeerRecord
late end now r = record r {
  last_end = Some end;
  faults = if is_fault end then count_more r.faults else r.faults;
  faulted = if is_fault end then after_another now r.faulted else r.faulted;
}

-- there is no connection any longer
abbrev pub alone : PeerRecord → PeerRecord
alone r = record r { state = states.Down; teaches = false; role = None; version = None }

-- The end of a session is counted, and it is told since when there is none. Why a connection ended is told, too, but for one that was
-- given up for another before its session began.
abbrev pub ended : SessionEnd → ℕ → PeerRecord → PeerRecord
ended end now r =
    if stands r then late end now (record (alone r) { since = now; ended = counted_end end r.ended })
    else (if is_replaced end then alone r else late end now (alone r))
