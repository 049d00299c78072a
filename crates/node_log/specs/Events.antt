-- The names of events, and how much each matters.
use Rattle.std.specs.Prelude.{ℕ, ◌==◌, List, codes, if◌then◌else◌}
use Rattle.node_core.specs.declared.events.Event.{Event}
use Rattle.node_core.specs.declared.events.Event.TheVariants as events
use Rattle.node_core.specs.declared.events.PeerEvent.{PeerEvent}
use Rattle.node_core.specs.declared.events.PeerEvent.TheVariants as peers
use Rattle.node_core.specs.declared.events.ResyncEnd.{ResyncEnd}
use Rattle.node_core.specs.declared.events.ResyncEnd.TheVariants as resyncs
use Rattle.node_core.specs.declared.levels.Level.{Level}
use Rattle.node_core.specs.declared.levels.Level.TheVariants as levels
use Rattle.node_core.specs.declared.session_ends.SessionEnd.{SessionEnd}
use Rattle.node_core.specs.declared.session_ends.SessionEnd.TheVariants as ends

-- ---- names

abbrev pub peer_event_name : PeerEvent → List ℕ
peer_event_name peers.Connecting = codes "connecting"
peer_event_name (peers.Unreachable reason) = codes "unreachable"
peer_event_name (peers.NoSession why cause) = codes "unreachable"
peer_event_name (peers.Refused status node) = codes "refused"
peer_event_name (peers.Connected accepted version process away) = codes "connected"
peer_event_name peers.Asked = codes "asked"
peer_event_name (peers.Unanswered why) = codes "unanswered"
peer_event_name (peers.ResyncEnded taught end rows milliseconds) = codes "resync-ended"
peer_event_name (peers.Mismatch table difference theirs ours) = codes "mismatch"
peer_event_name (peers.Unshared table) = codes "unshared"
peer_event_name (peers.Undefined table) = codes "undefined"
peer_event_name (peers.Left table) = codes "left"
peer_event_name (peers.Alike table under_way) = codes "alike"
peer_event_name (peers.Unacknowledged table) = codes "unacknowledged"
peer_event_name (peers.PassedOver table further) = codes "passed-over"
peer_event_name (peers.Fault fault) = codes "fault"
peer_event_name (peers.NoHeartbeat milliseconds) = codes "no-heartbeat"
peer_event_name (peers.Ended end lasted cause) = codes "ended"
peer_event_name (peers.ShortSessions count node) = codes "short-sessions"

abbrev pub event_name : Event → List ℕ
event_name (events.Start version configuration node) = codes "start"
event_name (events.Listening port address) = codes "listening"
event_name (events.HelloRefused sender address refusal node said) = codes "hello-refused"
event_name (events.OfPeer name address event) = peer_event_name event
event_name (events.WrongPort port sender address listen) = codes "wrong-port"
event_name (events.UpToDate teacher) = codes "up-to-date"
event_name (events.HeldUp milliseconds) = codes "held-up"
event_name (events.ConfigurationWarning warning) = codes "configuration-warning"
event_name (events.Renewed table) = codes "renewed"
event_name (events.NotRenewed table) = codes "not-renewed"
event_name (events.NotAccepted port want reason) = codes "not-accepted"
event_name (events.Omitted peer cause count) = codes "omitted"
event_name events.Stop = codes "stop"
event_name (events.Stopped cut) = codes "stopped"

-- ---- levels

-- A resync that ended with its rows is as it should be; one that the session's end broke isn't.
abbrev pub resync_level : ResyncEnd → Level
resync_level resyncs.Finished = levels.Info
resync_level resyncs.Incomplete = levels.Info
resync_level resyncs.Partial = levels.Info
resync_level resyncs.Broken = levels.Warn

-- A session whose connection was closed or broke is as it should be: whether the peer comes back, another line says. One that its peer
-- let hang, or spoilt, isn't.
abbrev pub end_level : SessionEnd → Level
end_level ends.End = levels.Info
end_level ends.Replaced = levels.Info
end_level ends.Device = levels.Info
end_level ends.Silent = levels.Warn
end_level ends.Fault = levels.Warn
end_level ends.Error = levels.Warn

abbrev pub peer_event_level : PeerEvent → Level
peer_event_level peers.Connecting = levels.Info
peer_event_level (peers.Connected accepted version process away) = levels.Info
peer_event_level peers.Asked = levels.Info
peer_event_level (peers.ResyncEnded taught end rows milliseconds) = resync_level end
peer_event_level (peers.Ended end lasted cause) = end_level end
peer_event_level (peers.Unreachable reason) = levels.Warn
peer_event_level (peers.NoSession why cause) = levels.Warn
peer_event_level (peers.Refused status node) = levels.Warn
peer_event_level (peers.Unanswered why) = levels.Warn
peer_event_level (peers.Mismatch table difference theirs ours) = levels.Warn
peer_event_level (peers.Unshared table) = levels.Info
peer_event_level (peers.Undefined table) = levels.Info
peer_event_level (peers.Left table) = levels.Warn
peer_event_level (peers.Alike table under_way) = levels.Info
peer_event_level (peers.Unacknowledged table) = levels.Warn
peer_event_level (peers.PassedOver table further) = levels.Warn
peer_event_level (peers.Fault fault) = levels.Warn
peer_event_level (peers.NoHeartbeat milliseconds) = levels.Warn
peer_event_level (peers.ShortSessions count node) = levels.Warn

-- A stop that cut no session is as it should be.
abbrev pub stop_level : ℕ → Level
stop_level cut = if cut == 0 then levels.Info else levels.Warn

abbrev pub level_of : Event → Level
level_of (events.OfPeer name address event) = peer_event_level event
level_of (events.NotRenewed table) = levels.Error
level_of (events.NotAccepted port want reason) = levels.Error
level_of (events.HelloRefused sender address refusal node said) = levels.Warn
level_of (events.WrongPort port sender address listen) = levels.Warn
level_of (events.HeldUp milliseconds) = levels.Warn
level_of (events.Omitted peer cause count) = levels.Warn
level_of (events.ConfigurationWarning warning) = levels.Warn
level_of (events.Start version configuration node) = levels.Info
level_of (events.Listening port address) = levels.Info
level_of (events.UpToDate teacher) = levels.Info
level_of (events.Renewed table) = levels.Info
level_of events.Stop = levels.Info
level_of (events.Stopped cut) = stop_level cut
