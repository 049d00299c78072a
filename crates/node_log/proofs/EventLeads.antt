-- What stands before the sentence of each line.
use Rattle.std.proofs.Common.{◌≡◌, ◌^◌, ◌&&◌, Bool, true, false, ℕ, List, [], ◌∷◌, refl}
use Rattle.std.specs.Prelude.{Option, None, Some, codes, nat_lt}
use Rattle.std.specs.List.{list_all}
use Rattle.table_types.specs.declared.version.Version.{Version}
use Rattle.table_types.specs.declared.version.Version.TheVariants as versions
use Rattle.node_core.specs.SessionEnds.{end_name}
use Rattle.node_core.specs.declared.asking.WaitEnd.{WaitEnd}
use Rattle.node_core.specs.declared.asking.WaitEnd.TheVariants as waits
use Rattle.node_core.specs.declared.differences.Difference.{Difference}
use Rattle.node_core.specs.declared.differences.Difference.TheVariants as differences
use Rattle.node_core.specs.declared.events.Event.{Event}
use Rattle.node_core.specs.declared.events.Event.TheVariants as events
use Rattle.node_core.specs.declared.events.HelloRefusal.{HelloRefusal}
use Rattle.node_core.specs.declared.events.HelloRefusal.TheVariants as refusals
use Rattle.node_core.specs.declared.events.Omission.TheVariants as omissions
use Rattle.node_core.specs.declared.events.PeerEvent.{PeerEvent}
use Rattle.node_core.specs.declared.events.PeerEvent.TheVariants as peers
use Rattle.node_core.specs.declared.events.Port.{Port}
use Rattle.node_core.specs.declared.events.Port.TheVariants as ports
use Rattle.node_core.specs.declared.events.ResyncEnd.{ResyncEnd}
use Rattle.node_core.specs.declared.events.ResyncEnd.TheVariants as resyncs
use Rattle.node_core.specs.declared.events.Sender.{Sender}
use Rattle.node_core.specs.declared.events.Sender.TheVariants as senders
use Rattle.node_core.specs.declared.processes.Process.{Process}
use Rattle.node_core.specs.declared.processes.Process.TheVariants as processes
use Rattle.node_core.specs.declared.session_ends.SessionEnd.{SessionEnd}
use Rattle.node_core.specs.declared.session_ends.SessionEnd.TheVariants as ends
use Rattle.node_log.specs.Events.{event_name, peer_event_name}
use Rattle.node_log.specs.Keys.{address_field, keys_text, name_of, number_field, peer_field, peer_fields, port_name, process_field, resync_name, role_name, said_field, sender_field, session_fields, status_of, strange_field, strange_if, teacher_or_learner, version_name, wait_name, what_name, word_field}
use Rattle.node_log.specs.Lines.{event_text}
use Rattle.node_log.specs.Ranges.{are_bytes, is_event, numbers_of, peer_numbers, peer_texts, sender_texts, texts_if, texts_of}
use Rattle.node_log.proofs.Leads.{IsLead, both, leads, number_value, strange_value, word_value}

-- ---- fields

empty : IsLead []
empty = record { calm = refl; printable = refl }

word_lead : (key word : List ℕ) → IsLead key → are_bytes word ≡ true → IsLead (word_field key word)
word_lead key word is bytes = leads key _ is (word_value word bytes)

strange_lead : (key name : List ℕ) → IsLead key → are_bytes name ≡ true → IsLead (strange_field key name)
strange_lead key name is bytes = leads key _ is (strange_value name bytes)

number_lead : (key : List ℕ) (n : ℕ) → IsLead key → nat_lt n (2 ^ 64) ≡ true → IsLead (number_field key n)
number_lead key n is small = leads key _ is (number_value n small)

first : (a b : Bool) → (a && b) ≡ true → a ≡ true
first a b is = (both a b is).0

peer_key : IsLead (codes " peer=")
peer_key = record { calm = refl; printable = refl }

table_key : IsLead (codes " table=")
table_key = record { calm = refl; printable = refl }

address_lead : (address : List ℕ) → are_bytes address ≡ true → IsLead (address_field address)
address_lead [] bytes = empty
address_lead (byte ∷ address) bytes = word_lead (codes " address=") (byte ∷ address) (record { calm = refl; printable = refl }) bytes

-- ---- of the node

port_lead : (port : Port) → IsLead (word_field (codes " port=") (port_name port))
port_lead ports.Peers = record { calm = refl; printable = refl }
port_lead ports.Admin = record { calm = refl; printable = refl }
port_lead ports.Metrics = record { calm = refl; printable = refl }

status_key : IsLead (codes " status=")
status_key = record { calm = refl; printable = refl }

status_lead : (refusal : HelloRefusal) → IsLead (number_field (codes " status=") (status_of refusal))
status_lead refusals.Garbled = number_lead (codes " status=") 501 status_key refl
status_lead refusals.Version = number_lead (codes " status=") 502 status_key refl
status_lead refusals.OtherNode = number_lead (codes " status=") 503 status_key refl
status_lead refusals.Stranger = number_lead (codes " status=") 504 status_key refl
status_lead refusals.Elsewhere = number_lead (codes " status=") 504 status_key refl
status_lead refusals.Missing = number_lead (codes " status=") 501 status_key refl
status_lead refusals.Unfinished = number_lead (codes " status=") 501 status_key refl

sender_lead : (sender : Option Sender) → list_all are_bytes (sender_texts sender) ≡ true → IsLead (sender_field sender)
sender_lead None texts = empty
sender_lead (Some (senders.Peer name)) texts = word_lead (codes " peer=") name.now peer_key (first _ _ texts)
sender_lead (Some (senders.Stranger name)) texts = strange_lead (codes " peer=") name.now peer_key (first _ _ texts)

strange_if_lead : (key name : List ℕ) → IsLead key → are_bytes name ≡ true → IsLead (strange_if key name)
strange_if_lead key [] is bytes = empty
strange_if_lead key (byte ∷ name) is bytes = strange_lead key (byte ∷ name) is bytes

said_lead : (refusal : HelloRefusal) (said : List ℕ) → are_bytes said ≡ true → IsLead (said_field refusal said)
said_lead refusals.Garbled said bytes = empty
said_lead refusals.Version said bytes = strange_if_lead (codes " protocol=") said (record { calm = refl; printable = refl }) bytes
said_lead refusals.OtherNode said bytes = strange_if_lead (codes " called=") said (record { calm = refl; printable = refl }) bytes
said_lead refusals.Stranger said bytes = empty
said_lead refusals.Elsewhere said bytes = empty
said_lead refusals.Missing said bytes = empty
said_lead refusals.Unfinished said bytes = empty

peer_lead : (peer : Option (List ℕ)) → list_all are_bytes (texts_if peer) ≡ true → IsLead (peer_field peer)
peer_lead None texts = empty
peer_lead (Some name) texts = word_lead (codes " peer=") name peer_key (first _ _ texts)

count_lead : (count : ℕ) → nat_lt count (2 ^ 64) ≡ true → IsLead (number_field (codes " count=") count)
count_lead count small = number_lead (codes " count=") count (record { calm = refl; printable = refl }) small

ms_lead : (milliseconds : ℕ) → nat_lt milliseconds (2 ^ 64) ≡ true → IsLead (number_field (codes " ms=") milliseconds)
ms_lead milliseconds small = number_lead (codes " ms=") milliseconds (record { calm = refl; printable = refl }) small

-- ---- of a peer

role_lead : (accepted : Bool) → IsLead (word_field (codes " role=") (role_name accepted))
role_lead true = record { calm = refl; printable = refl }
role_lead false = record { calm = refl; printable = refl }

version_lead : (version : Version) → IsLead (word_field (codes " protocol=") (version_name version))
version_lead versions.V20 = record { calm = refl; printable = refl }
version_lead versions.V21 = record { calm = refl; printable = refl }

process_lead : (process : Process) → IsLead (process_field process)
process_lead processes.Unknown = empty
process_lead processes.New = record { calm = refl; printable = refl }
process_lead processes.Same = record { calm = refl; printable = refl }

session_lead : (accepted : Bool) (version : Version) (process : Process) → IsLead (session_fields accepted version process)
session_lead accepted version process = leads _ _ (role_lead accepted) (leads _ _ (version_lead version) (process_lead process))

part_lead : (taught : Bool) → IsLead (word_field (codes " role=") (teacher_or_learner taught))
part_lead true = record { calm = refl; printable = refl }
part_lead false = record { calm = refl; printable = refl }

resync_lead : (end : ResyncEnd) → IsLead (word_field (codes " end=") (resync_name end))
resync_lead resyncs.Finished = record { calm = refl; printable = refl }
resync_lead resyncs.Incomplete = record { calm = refl; printable = refl }
resync_lead resyncs.Partial = record { calm = refl; printable = refl }
resync_lead resyncs.Broken = record { calm = refl; printable = refl }

end_lead : (end : SessionEnd) → IsLead (word_field (codes " end=") (end_name end))
end_lead ends.End = record { calm = refl; printable = refl }
end_lead ends.Silent = record { calm = refl; printable = refl }
end_lead ends.Fault = record { calm = refl; printable = refl }
end_lead ends.Replaced = record { calm = refl; printable = refl }
end_lead ends.Device = record { calm = refl; printable = refl }
end_lead ends.Error = record { calm = refl; printable = refl }

what_lead : (difference : Difference) → IsLead (word_field (codes " what=") (what_name difference))
what_lead differences.Kind = record { calm = refl; printable = refl }
what_lead differences.Length = record { calm = refl; printable = refl }
what_lead differences.Types = record { calm = refl; printable = refl }
what_lead differences.Period = record { calm = refl; printable = refl }

why_lead : (why : WaitEnd) → IsLead (word_field (codes " why=") (wait_name why))
why_lead waits.Mute = record { calm = refl; printable = refl }
why_lead waits.Endless = record { calm = refl; printable = refl }

abbrev are_small : List ℕ → Bool
are_small ns = list_all (λ n. nat_lt n (2 ^ 64)) ns

fields_lead : (event : PeerEvent) → list_all are_bytes (peer_texts event) ≡ true → are_small (peer_numbers event) ≡ true → IsLead (peer_fields event)
fields_lead peers.Connecting texts numbers = empty
fields_lead (peers.Unreachable reason) texts numbers = empty
fields_lead (peers.NoSession why cause) texts numbers = empty
fields_lead (peers.Refused status node) texts numbers = number_lead (codes " status=") status (record { calm = refl; printable = refl }) (first _ _ numbers)
fields_lead (peers.Connected accepted version process away) texts numbers =
    leads _ _ (session_lead accepted version process) (number_lead (codes " away_ms=") away (record { calm = refl; printable = refl }) (first _ _ numbers))
fields_lead peers.Asked texts numbers = empty
fields_lead (peers.Unanswered why) texts numbers = why_lead why
fields_lead (peers.ResyncEnded taught end rows milliseconds) texts numbers =
    let small = both (nat_lt rows (2 ^ 64)) (nat_lt milliseconds (2 ^ 64) && true) numbers in
    leads _ _ (part_lead taught) (leads _ _ (resync_lead end) (leads _ _ (number_lead (codes " rows=") rows (record { calm = refl; printable = refl }) small.0)
    (ms_lead milliseconds (first _ _ small.1))))
fields_lead (peers.Mismatch table difference theirs ours) texts numbers = leads _ _ (word_lead (codes " table=") table.now table_key (first _ _ texts)) (what_lead difference)
fields_lead (peers.Unshared table) texts numbers = strange_lead (codes " table=") table.now table_key (first _ _ texts)
fields_lead (peers.Undefined table) texts numbers = word_lead (codes " table=") table.now table_key (first _ _ texts)
fields_lead (peers.Left table) texts numbers = word_lead (codes " table=") table.now table_key (first _ _ texts)
fields_lead (peers.Alike table under_way) texts numbers = word_lead (codes " table=") table.now table_key (first _ _ texts)
fields_lead (peers.Unacknowledged table) texts numbers = word_lead (codes " table=") table.now table_key (first _ _ texts)
fields_lead (peers.PassedOver table further) texts numbers = strange_if_lead (codes " table=") table.now table_key (first _ _ texts)
fields_lead (peers.Fault fault) texts numbers = word_lead (codes " fault=") fault.now (record { calm = refl; printable = refl }) (first _ _ texts)
fields_lead (peers.NoHeartbeat milliseconds) texts numbers = ms_lead milliseconds (first _ _ numbers)
fields_lead (peers.Ended end lasted cause) texts numbers =
    leads _ _ (end_lead end) (number_lead (codes " lasted_ms=") lasted (record { calm = refl; printable = refl }) (first _ _ numbers))
fields_lead (peers.ShortSessions count node) texts numbers = count_lead count (first _ _ numbers)

-- ---- of an event

keys_lead : (event : Event) → list_all are_bytes (texts_of event) ≡ true → are_small (numbers_of event) ≡ true → IsLead (keys_text event)
keys_lead (events.Start version configuration node) texts numbers =
    let one = both (are_bytes version.now) (are_bytes configuration.now && (are_bytes node.now && true)) texts in
    let two = both (are_bytes configuration.now) (are_bytes node.now && true) one.1 in
    leads _ _ (word_lead (codes " version=") version.now (record { calm = refl; printable = refl }) one.0)
    (leads _ _ (word_lead (codes " config=") configuration.now (record { calm = refl; printable = refl }) two.0)
    (word_lead (codes " node=") node.now (record { calm = refl; printable = refl }) (first _ _ two.1)))
keys_lead (events.Listening port address) texts numbers = leads _ _ (port_lead port) (address_lead address.now (first _ _ texts))
keys_lead (events.HelloRefused sender address refusal node said) texts numbers =
    let one = both (are_bytes address.now) (are_bytes said.now && list_all are_bytes (sender_texts sender)) texts in
    let two = both (are_bytes said.now) (list_all are_bytes (sender_texts sender)) one.1 in
    leads _ _ (status_lead refusal) (leads _ _ (sender_lead sender two.1) (leads _ _ (address_lead address.now one.0) (said_lead refusal said.now two.0)))
keys_lead (events.OfPeer name address event) texts numbers =
    let one = both (are_bytes name.now) (are_bytes address.now && list_all are_bytes (peer_texts event)) texts in
    let two = both (are_bytes address.now) (list_all are_bytes (peer_texts event)) one.1 in
    leads _ _ (word_lead (codes " peer=") name.now peer_key one.0) (leads _ _ (address_lead address.now two.0) (fields_lead event two.1 numbers))
keys_lead (events.WrongPort port sender address listen) texts numbers =
    let one = both (are_bytes address.now) (list_all are_bytes (sender_texts sender)) texts in
    leads _ _ (port_lead port) (leads _ _ (sender_lead sender one.1) (address_lead address.now one.0))
keys_lead (events.UpToDate teacher) texts numbers = peer_lead (name_of teacher) texts
keys_lead (events.HeldUp milliseconds) texts numbers = ms_lead milliseconds (first _ _ numbers)
keys_lead (events.ConfigurationWarning warning) texts numbers = empty
keys_lead (events.Renewed table) texts numbers = word_lead (codes " table=") table.now table_key (first _ _ texts)
keys_lead (events.NotRenewed table) texts numbers = word_lead (codes " table=") table.now table_key (first _ _ texts)
keys_lead (events.NotAccepted port want reason) texts numbers = port_lead port
keys_lead (events.Omitted peer (omissions.Repeated event) count) texts numbers =
    let one = both (are_bytes event.now) (list_all are_bytes (texts_if (name_of peer))) texts in
    leads _ _ (peer_lead (name_of peer) one.1)
    (leads _ _ (word_lead (codes " of=") event.now (record { calm = refl; printable = refl }) one.0) (count_lead count (first _ _ numbers)))
keys_lead (events.Omitted peer omissions.Unwritten count) texts numbers =
    leads _ _ (peer_lead (name_of peer) texts) (leads _ _ empty (count_lead count (first _ _ numbers)))
keys_lead events.Stop texts numbers = empty
keys_lead (events.Stopped cut) texts numbers = number_lead (codes " cut=") cut (record { calm = refl; printable = refl }) (first _ _ numbers)

peer_name_lead : (event : PeerEvent) → IsLead (peer_event_name event)
peer_name_lead peers.Connecting = record { calm = refl; printable = refl }
peer_name_lead (peers.Unreachable reason) = record { calm = refl; printable = refl }
peer_name_lead (peers.NoSession why cause) = record { calm = refl; printable = refl }
peer_name_lead (peers.Refused status node) = record { calm = refl; printable = refl }
peer_name_lead (peers.Connected accepted version process away) = record { calm = refl; printable = refl }
peer_name_lead peers.Asked = record { calm = refl; printable = refl }
peer_name_lead (peers.Unanswered why) = record { calm = refl; printable = refl }
peer_name_lead (peers.ResyncEnded taught end rows milliseconds) = record { calm = refl; printable = refl }
peer_name_lead (peers.Mismatch table difference theirs ours) = record { calm = refl; printable = refl }
peer_name_lead (peers.Unshared table) = record { calm = refl; printable = refl }
peer_name_lead (peers.Undefined table) = record { calm = refl; printable = refl }
peer_name_lead (peers.Left table) = record { calm = refl; printable = refl }
peer_name_lead (peers.Alike table under_way) = record { calm = refl; printable = refl }
peer_name_lead (peers.Unacknowledged table) = record { calm = refl; printable = refl }
peer_name_lead (peers.PassedOver table further) = record { calm = refl; printable = refl }
peer_name_lead (peers.Fault fault) = record { calm = refl; printable = refl }
peer_name_lead (peers.NoHeartbeat milliseconds) = record { calm = refl; printable = refl }
peer_name_lead (peers.Ended end lasted cause) = record { calm = refl; printable = refl }
peer_name_lead (peers.ShortSessions count node) = record { calm = refl; printable = refl }

name_lead : (event : Event) → IsLead (event_name event)
name_lead (events.Start version configuration node) = record { calm = refl; printable = refl }
name_lead (events.Listening port address) = record { calm = refl; printable = refl }
name_lead (events.HelloRefused sender address refusal node said) = record { calm = refl; printable = refl }
name_lead (events.OfPeer name address event) = peer_name_lead event
name_lead (events.WrongPort port sender address listen) = record { calm = refl; printable = refl }
name_lead (events.UpToDate teacher) = record { calm = refl; printable = refl }
name_lead (events.HeldUp milliseconds) = record { calm = refl; printable = refl }
name_lead (events.ConfigurationWarning warning) = record { calm = refl; printable = refl }
name_lead (events.Renewed table) = record { calm = refl; printable = refl }
name_lead (events.NotRenewed table) = record { calm = refl; printable = refl }
name_lead (events.NotAccepted port want reason) = record { calm = refl; printable = refl }
name_lead (events.Omitted peer cause count) = record { calm = refl; printable = refl }
name_lead events.Stop = record { calm = refl; printable = refl }
name_lead (events.Stopped cut) = record { calm = refl; printable = refl }

pub event_lead : (event : Event) → is_event event ≡ true → IsLead (event_text event)
event_lead event is =
    let parts = both (list_all are_bytes (texts_of event)) (are_small (numbers_of event)) is in
    leads (codes "event=") _ (record { calm = refl; printable = refl }) (leads _ _ (name_lead event) (keys_lead event parts.0 parts.1))
