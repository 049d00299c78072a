-- The keys of events and their values, each behind a space.
use Rattle.std.specs.Prelude.{◌++◌, ℕ, Bool, true, false, List, [], ◌∷◌, Option, None, Some, codes}
use Rattle.std.specs.Borrow.{Bor}
use Rattle.std.specs.Fmt.{decimal}
use Rattle.table_types.specs.declared.version.Version.{Version}
use Rattle.table_types.specs.declared.version.Version.TheVariants as versions
use Rattle.node_core.specs.SessionEnds.{end_name}
use Rattle.node_core.specs.declared.asking.WaitEnd.{WaitEnd}
use Rattle.node_core.specs.declared.asking.WaitEnd.TheVariants as waits
use Rattle.node_core.specs.declared.differences.Difference.{Difference}
use Rattle.node_core.specs.declared.differences.Difference.TheVariants as differences
use Rattle.node_core.specs.declared.events.Event.{Event}
use Rattle.node_core.specs.declared.events.Event.TheVariants as events
use Rattle.node_core.specs.declared.events.HelloRefusal.{HelloRefusal}
use Rattle.node_core.specs.declared.events.HelloRefusal.TheVariants as refusals
use Rattle.node_core.specs.declared.events.Omission.{Omission}
use Rattle.node_core.specs.declared.events.Omission.TheVariants as omissions
use Rattle.node_core.specs.declared.events.PeerEvent.{PeerEvent}
use Rattle.node_core.specs.declared.events.PeerEvent.TheVariants as peers
use Rattle.node_core.specs.declared.events.Port.{Port}
use Rattle.node_core.specs.declared.events.Port.TheVariants as ports
use Rattle.node_core.specs.declared.events.ResyncEnd.{ResyncEnd}
use Rattle.node_core.specs.declared.events.ResyncEnd.TheVariants as resyncs
use Rattle.node_core.specs.declared.events.Sender.{Sender}
use Rattle.node_core.specs.declared.events.Sender.TheVariants as senders
use Rattle.node_core.specs.declared.processes.Process.{Process}
use Rattle.node_core.specs.declared.processes.Process.TheVariants as processes
use Rattle.node_log.specs.Values.{strange_text, word_text}

-- ---- words

abbrev pub port_name : Port → List ℕ
port_name ports.Peers = codes "peers"
port_name ports.Admin = codes "admin"
port_name ports.Metrics = codes "metrics"

-- the end of the connection that is the node's
abbrev pub role_name : Bool → List ℕ
role_name true = codes "accept"
role_name false = codes "connect"

abbrev pub version_name : Version → List ℕ
version_name versions.V20 = codes "2.0"
version_name versions.V21 = codes "2.1"

-- the node's part in a resync
abbrev pub teacher_or_learner : Bool → List ℕ
teacher_or_learner true = codes "teacher"
teacher_or_learner false = codes "learner"

abbrev pub resync_name : ResyncEnd → List ℕ
resync_name resyncs.Finished = codes "finished"
resync_name resyncs.Incomplete = codes "incomplete"
resync_name resyncs.Partial = codes "partial"
resync_name resyncs.Broken = codes "broken"

abbrev pub what_name : Difference → List ℕ
what_name differences.Kind = codes "kind"
what_name differences.Length = codes "length"
what_name differences.Types = codes "types"
what_name differences.Period = codes "period"

abbrev pub wait_name : WaitEnd → List ℕ
wait_name waits.Mute = codes "mute"
wait_name waits.Endless = codes "endless"

-- the status that answers a hello that is refused for this reason (HAProxy, doc/peers-v2.0.txt; the 501 for a late hello is a choice of
-- this project)
abbrev pub status_of : HelloRefusal → ℕ
status_of refusals.Garbled = 501
status_of refusals.Version = 502
status_of refusals.OtherNode = 503
status_of refusals.Stranger = 504
status_of refusals.Elsewhere = 504
status_of refusals.Missing = 501
status_of refusals.Unfinished = 501

-- ---- fields: a key, with a space before it and `=` behind it, and its value

-- a word of the program or the configuration
abbrev pub word_field : List ℕ → List ℕ → List ℕ
word_field key word = key ++ word_text word

-- a name that the configuration doesn't have
abbrev pub strange_field : List ℕ → List ℕ → List ℕ
strange_field key name = key ++ strange_text name

-- such a name, if it is known
abbrev pub strange_if : List ℕ → List ℕ → List ℕ
strange_if key [] = []
strange_if key (byte ∷ bytes) = strange_field key (byte ∷ bytes)

abbrev pub number_field : List ℕ → ℕ → List ℕ
number_field key number = key ++ decimal number

-- an address, if it is known
abbrev pub address_field : List ℕ → List ℕ
address_field [] = []
address_field (byte ∷ bytes) = word_field (codes " address=") (byte ∷ bytes)

-- ---- of the node

abbrev pub start_fields : List ℕ → List ℕ → List ℕ → List ℕ
start_fields version configuration node =
    word_field (codes " version=") version ++ (word_field (codes " config=") configuration ++ word_field (codes " node=") node)

abbrev pub listening_fields : Port → List ℕ → List ℕ
listening_fields port address = word_field (codes " port=") (port_name port) ++ address_field address

-- who sent a hello, if it is known
abbrev pub sender_field : Option Sender → List ℕ
sender_field None = []
sender_field (Some (senders.Peer name)) = word_field (codes " peer=") name.now
sender_field (Some (senders.Stranger name)) = strange_field (codes " peer=") name.now

abbrev pub wrong_port_fields : Port → Option Sender → List ℕ → List ℕ
wrong_port_fields port sender address = word_field (codes " port=") (port_name port) ++ (sender_field sender ++ address_field address)

-- what a hello says instead of what it should: the name by which it calls this node, or the version
abbrev pub said_field : HelloRefusal → List ℕ → List ℕ
said_field refusals.Version said = strange_if (codes " protocol=") said
said_field refusals.OtherNode said = strange_if (codes " called=") said
said_field refusals.Garbled said = []
said_field refusals.Stranger said = []
said_field refusals.Elsewhere said = []
said_field refusals.Missing said = []
said_field refusals.Unfinished said = []

abbrev pub hello_fields : HelloRefusal → Option Sender → List ℕ → List ℕ → List ℕ
hello_fields refusal sender address said =
    number_field (codes " status=") (status_of refusal) ++ (sender_field sender ++ (address_field address ++ said_field refusal said))

-- a peer, if there is one
abbrev pub peer_field : Option (List ℕ) → List ℕ
peer_field None = []
peer_field (Some name) = word_field (codes " peer=") name

-- the event that they said
abbrev pub of_field : Omission → List ℕ
of_field (omissions.Repeated event) = word_field (codes " of=") event.now
of_field omissions.Unwritten = []

abbrev pub omission_fields : Option (List ℕ) → Omission → ℕ → List ℕ
omission_fields peer cause count = peer_field peer ++ (of_field cause ++ number_field (codes " count=") count)

-- ---- of a peer

-- whether the peer is another process than before, if that is known
abbrev pub process_field : Process → List ℕ
process_field processes.Unknown = []
process_field processes.New = word_field (codes " process=") (codes "new")
process_field processes.Same = word_field (codes " process=") (codes "same")

abbrev pub session_fields : Bool → Version → Process → List ℕ
session_fields accepted version process =
    word_field (codes " role=") (role_name accepted) ++ (word_field (codes " protocol=") (version_name version) ++ process_field process)

abbrev pub resync_fields : Bool → ResyncEnd → ℕ → ℕ → List ℕ
resync_fields taught end rows milliseconds =
    word_field (codes " role=") (teacher_or_learner taught)
    ++ (word_field (codes " end=") (resync_name end) ++ (number_field (codes " rows=") rows ++ number_field (codes " ms=") milliseconds))

abbrev pub peer_fields : PeerEvent → List ℕ
peer_fields peers.Connecting = []
peer_fields (peers.Unreachable reason) = []
peer_fields (peers.NoSession why cause) = []
peer_fields (peers.Refused status node) = number_field (codes " status=") status
peer_fields (peers.Connected accepted version process away) = session_fields accepted version process ++ number_field (codes " away_ms=") away
peer_fields peers.Asked = []
peer_fields (peers.Unanswered why) = word_field (codes " why=") (wait_name why)
peer_fields (peers.ResyncEnded taught end rows milliseconds) = resync_fields taught end rows milliseconds
peer_fields (peers.Mismatch table difference theirs ours) = word_field (codes " table=") table.now ++ word_field (codes " what=") (what_name difference)
peer_fields (peers.Unshared table) = strange_field (codes " table=") table.now
peer_fields (peers.Undefined table) = word_field (codes " table=") table.now
peer_fields (peers.Left table) = word_field (codes " table=") table.now
peer_fields (peers.Alike table under_way) = word_field (codes " table=") table.now
peer_fields (peers.Unacknowledged table) = word_field (codes " table=") table.now
peer_fields (peers.PassedOver table further) = strange_if (codes " table=") table.now
peer_fields (peers.Fault fault) = word_field (codes " fault=") fault.now
peer_fields (peers.NoHeartbeat milliseconds) = number_field (codes " ms=") milliseconds
peer_fields (peers.Ended end lasted cause) = word_field (codes " end=") (end_name end) ++ number_field (codes " lasted_ms=") lasted
peer_fields (peers.ShortSessions count node) = number_field (codes " count=") count

-- ---- of an event

abbrev pub name_of : Option (Bor (List ℕ)) → Option (List ℕ)
name_of None = None
name_of (Some name) = Some name.now

abbrev pub keys_text : Event → List ℕ
keys_text (events.Start version configuration node) = start_fields version.now configuration.now node.now
keys_text (events.Listening port address) = listening_fields port address.now
keys_text (events.HelloRefused sender address refusal node said) = hello_fields refusal sender address.now said.now
keys_text (events.OfPeer name address event) = word_field (codes " peer=") name.now ++ (address_field address.now ++ peer_fields event)
keys_text (events.WrongPort port sender address listen) = wrong_port_fields port sender address.now
keys_text (events.UpToDate teacher) = peer_field (name_of teacher)
keys_text (events.HeldUp milliseconds) = number_field (codes " ms=") milliseconds
keys_text (events.ConfigurationWarning warning) = []
keys_text (events.Renewed table) = word_field (codes " table=") table.now
keys_text (events.NotRenewed table) = word_field (codes " table=") table.now
keys_text (events.NotAccepted port want reason) = word_field (codes " port=") (port_name port)
keys_text (events.Omitted peer cause count) = omission_fields (name_of peer) cause count
keys_text events.Stop = []
keys_text (events.Stopped cut) = number_field (codes " cut=") cut
