-- The threads of a node share it, and each takes its seat with it. A lemma for each part, since one search through all of them gives up.
use mathlib.Core.List.{List, [], ◌∷◌}
use mir.Syntax.{Sym}
use denote.RattleType.{RattleType}
use denote.Param.Send.{AllSend, IsSend, IsSync, sendable}
use denote.Param.SendFields.{FieldsHave, as_row_send, declared_send}
use denote.Struct.Field.{row_field}
use denote.Struct.Tuple.{TupleAt, type_at}
use Rattle.std.proofs.Crossing.{crosses}
use Rattle.table_types.specs.contracts.name.Name as Name
use Rattle.table_types.specs.contracts.roster.Roster as Roster
use Rattle.admin_text.specs.contracts.peers.Peer as Peer
use Rattle.admin_text.specs.contracts.table_settings.TableSetting as TableSetting
use Rattle.admin_text.specs.contracts.configurations.Configuration as Configuration
use Rattle.node_core.proofs.Crosses.{asking_send, number_times_send}
use Rattle.node_log.proofs.Crosses.{told_send, waiting_send}
use Rattle.table_shards.proofs.Crosses.{shards_sync}
use Rattle.staying_node.specs.contracts.admin.AdminPort as AdminPort
use Rattle.staying_node.specs.contracts.admin.Clients as Clients
use Rattle.staying_node.specs.contracts.bell.Bell as Bell
use Rattle.staying_node.specs.contracts.catching_up.CatchingUp as CatchingUp
use Rattle.staying_node.specs.contracts.clock.NodeClock as NodeClock
use Rattle.staying_node.specs.contracts.doors.Doors as Doors
use Rattle.staying_node.specs.contracts.fault_counts.FaultCounts as FaultCounts
use Rattle.staying_node.specs.contracts.lags.Lags as Lags
use Rattle.staying_node.specs.contracts.log.Log as Log
use Rattle.staying_node.specs.contracts.metrics_port.MetricsPort as MetricsPort
use Rattle.staying_node.specs.contracts.metrics_port.Visits as Visits
use Rattle.staying_node.specs.contracts.node.Flags as Flags
use Rattle.staying_node.specs.contracts.node.Node as Node
use Rattle.staying_node.specs.contracts.numbering.Numbering as Numbering
use Rattle.staying_node.specs.contracts.ports.Ports as Ports
use Rattle.staying_node.specs.contracts.process.Spare as Spare
use Rattle.staying_node.specs.contracts.slot.Slot as Slot
use Rattle.staying_node.specs.contracts.sockets.SocketFile as SocketFile
use Rattle.staying_node.specs.contracts.status.PeerStatus as PeerStatus
use Rattle.staying_node.specs.contracts.streams.Listener as Listener
use Rattle.staying_node.specs.contracts.streams.Stream as Stream
use Rattle.staying_node.specs.contracts.wrong_ports.WrongPorts as WrongPorts

roster_sync : IsSync (Roster.the_field).row
roster_sync = search (sendable, crosses) depth 80 fits 20000

name_sync : IsSync (Name.the_field).row
name_sync = search (sendable, crosses) depth 80 fits 20000

peer_sync : IsSync (Peer.the_field).row
peer_sync = search (name_sync, sendable, crosses) depth 80 fits 20000

setting_sync : IsSync (TableSetting.the_field).row
setting_sync = search (sendable, crosses) depth 80 fits 20000

configuration_sync : IsSync (Configuration.the_field).row
configuration_sync = search (name_sync, peer_sync, setting_sync, sendable, crosses) depth 80 fits 20000

status_send : IsSend (PeerStatus.the_field).row
status_send = search (sendable, crosses) depth 80 fits 20000

slot_sync : IsSync (Slot.the_field).row
slot_sync = search (status_send, sendable, crosses) depth 80 fits 20000

catching_up_sync : IsSync (CatchingUp.the_field).row
catching_up_sync = search (asking_send, sendable, crosses) depth 80 fits 20000

numbering_sync : IsSync (Numbering.the_field).row
numbering_sync = search (number_times_send, sendable, crosses) depth 80 fits 20000

name_send : IsSend (Name.the_field).row
name_send = search (sendable, crosses) depth 80 fits 20000

pub log_sync : IsSync (Log.the_field).row
log_sync = search (waiting_send, name_sync, sendable, crosses) depth 80 fits 20000

pub log_send : IsSend (Log.the_field).row
log_send = search (waiting_send, name_send, sendable, crosses) depth 80 fits 20000

wrong_ports_sync : IsSync (WrongPorts.the_field).row
wrong_ports_sync = search (told_send, sendable, crosses) depth 80 fits 20000

clock_sync : IsSync (NodeClock.the_field).row
clock_sync = search (sendable, crosses) depth 80 fits 20000

faults_sync : IsSync (FaultCounts.the_field).row
faults_sync = search (sendable, crosses) depth 80 fits 20000

lags_sync : IsSync (Lags.the_field).row
lags_sync = search (sendable, crosses) depth 80 fits 20000

bell_sync : IsSync (Bell.the_field).row
bell_sync = search (sendable, crosses) depth 80 fits 20000

spare_sync : IsSync (Spare.the_field).row
spare_sync = search (sendable, crosses) depth 80 fits 20000

flags_sync : IsSync (Flags.the_field).row
flags_sync = search (sendable, crosses) depth 80 fits 20000

pub node_sync : IsSync (Node.the_field).row
node_sync =
    search (name_sync, roster_sync, configuration_sync, slot_sync, catching_up_sync, numbering_sync, log_sync, log_send, wrong_ports_sync, shards_sync, clock_sync, faults_sync, lags_sync, bell_sync, spare_sync, flags_sync, sendable, crosses) depth 80 fits 20000

doors_sync : IsSync (Doors.the_field).row
doors_sync = search (told_send, sendable, crosses) depth 80 fits 20000

stream_send : IsSend (Stream.the_field).row
stream_send = search (sendable, crosses) depth 80 fits 20000

stream_sync : IsSync (Stream.the_field).row
stream_sync = search (sendable, crosses) depth 80 fits 20000

pub listener_sync : IsSync (Listener.the_field).row
listener_sync = search (sendable, crosses) depth 80 fits 20000

file_sync : IsSync (SocketFile.the_field).row
file_sync = search (sendable, crosses) depth 80 fits 20000

clients_sync : IsSync (Clients.the_field).row
clients_sync = search (stream_send, stream_sync, sendable, crosses) depth 80 fits 20000

pub admin_sync : IsSync (AdminPort.the_field).row
admin_sync = search (clients_sync, listener_sync, file_sync, sendable, crosses) depth 80 fits 20000

visits_sync : IsSync (Visits.the_field).row
visits_sync = search (stream_send, sendable, crosses) depth 80 fits 20000

pub metrics_sync : IsSync (MetricsPort.the_field).row
metrics_sync = search (visits_sync, listener_sync, sendable, crosses) depth 80 fits 20000

pub ports_sync : IsSync (Ports.the_field).row
ports_sync = search (doors_sync, admin_sync, metrics_sync, sendable, crosses) depth 80 fits 20000

parts_send : (name : Sym) (As : List RattleType) → AllSend As → FieldsHave IsSend (type_at name As).parts
parts_send name [] all = tt
parts_send name (A ∷ As) (first, rest) = (as_row_send (row_field A) first, parts_send name As rest)

captures_send : (name : Sym) (As : List RattleType) → AllSend As → IsSend (TupleAt name As)
captures_send name As all = declared_send (type_at name As) (parts_send name As all)

-- A closure of four captures. A search through all of them gives up.
pub four_send : (name : Sym) (A B C D : RattleType) → IsSend A → IsSend B → IsSend C → IsSend D → IsSend (TupleAt name (A ∷ B ∷ C ∷ D ∷ []))
four_send name A B C D a b c d = captures_send name (A ∷ B ∷ C ∷ D ∷ []) (a, (b, (c, (d, tt))))
