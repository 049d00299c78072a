-- What happens with a peer, in any order.
use Rattle.std.specs.Prelude.{ℕ, Bool, List, [], ◌∷◌, Option}
use Rattle.table_types.specs.declared.version.Version.{Version}
use Rattle.admin_port.specs.declared.reports.PeerRole.{PeerRole}
use Rattle.node_core.specs.declared.events.ResyncEnd.{ResyncEnd}
use Rattle.node_core.specs.declared.reaching.Failure.{Failure}
use Rattle.node_core.specs.declared.session_ends.SessionEnd.{SessionEnd}
use Rattle.node_rules.specs.declared.peer_record.PeerRecord.{PeerRecord}
use Rattle.node_rules.specs.PeerRecords.{begun, connected, ended, failed, gone_on, learned, refused, taught, tried, unknown}

-- What happens: the node tries to connect; an attempt of it fails; it refuses a hello; a connection is there; its session begins; goes
-- on; a resync ends, taught or learned; the connection ends.
pub data Happening : Type 0 where
  Tries : Happening
  Fails : Failure → Happening
  Refuses : ℕ → Happening
  Connects : PeerRole → Happening
  Begins : ℕ → Option Version → Option ℕ → Happening
  GoesOn : Bool → Bool → Happening
  Teaches : ResyncEnd → Happening
  Learns : ResyncEnd → Happening
  Ends : SessionEnd → ℕ → Happening

abbrev pub after : Happening → PeerRecord → PeerRecord
after Tries r = tried r
after (Fails failure) r = failed failure r
after (Refuses status) r = refused status r
after (Connects role) r = connected role r
after (Begins now version pid) r = begun now version pid r
after (GoesOn asking teaching) r = gone_on asking teaching r
after (Teaches end) r = taught end r
after (Learns end) r = learned end r
after (Ends end now) r = ended end now r

-- what is known after all that happened, the latest first
abbrev pub after_all : List Happening → PeerRecord
after_all [] = unknown
after_all (h ∷ hs) = after h (after_all hs)
