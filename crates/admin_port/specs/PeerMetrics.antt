-- The families of metrics that have samples for each peer (profile).
use Rattle.std.specs.Prelude.{◌++◌, ℕ, Bool, true, false, List, [], ◌∷◌, Option, None, Some, codes, flat_map}
use Rattle.node_core.specs.declared.last_errors.LastError.{LastError}
use Rattle.node_core.specs.SessionEnds.{end_name}
use Rattle.admin_port.specs.Reports.{last_error_text}
use Rattle.admin_port.specs.Samples.{family_head, sample_line}
use Rattle.node_core.specs.declared.session_ends.SessionEnd.{SessionEnd}
use Rattle.node_core.specs.declared.session_ends.SessionEnd.TheVariants as ends
use Rattle.admin_port.specs.declared.peer_metrics.PeerMetrics.{PeerMetrics}
use Rattle.admin_port.specs.declared.peer_metrics.TablesFamily.{TablesFamily}
use Rattle.admin_port.specs.declared.peer_metrics.TablesFamily.TheVariants as families
use Rattle.admin_port.specs.declared.peer_metrics.ResyncsEnded.{ResyncsEnded}

-- ---- up

abbrev pub as_number : Bool → ℕ
as_number true = 1
as_number false = 0

unfoldable pub up_sample : PeerMetrics → List ℕ
up_sample p = sample_line (codes "digbaro_peer_up") ((codes "peer", p.name.now) ∷ []) (as_number p.up)

unfoldable pub peers_up : List PeerMetrics → List ℕ
peers_up ps =
    family_head (codes "digbaro_peer_up") (codes "gauge") (codes "Whether there is a session with this peer.")
    ++ flat_map up_sample ps

-- ---- why there is no session

abbrev pub last_error_of : List ℕ → Option LastError → List ℕ
last_error_of peer None = []
last_error_of peer (Some e) =
    sample_line (codes "digbaro_peer_last_error") ((codes "peer", peer) ∷ (codes "error", last_error_text (Some e)) ∷ []) 1

unfoldable pub last_error_sample : PeerMetrics → List ℕ
last_error_sample p = last_error_of p.name.now p.last_error

unfoldable pub last_errors : List PeerMetrics → List ℕ
last_errors ps =
    family_head (codes "digbaro_peer_last_error") (codes "gauge") (codes "Why there is no session with this peer.")
    ++ flat_map last_error_sample ps

-- ---- sessions

unfoldable pub end_sample : List ℕ → SessionEnd → ℕ → List ℕ
end_sample peer end count =
    sample_line (codes "digbaro_sessions_total") ((codes "peer", peer) ∷ (codes "end", end_name end) ∷ []) count

-- how many sessions with a peer ended in each way
unfoldable pub sessions_of : PeerMetrics → List ℕ
sessions_of p =
    end_sample p.name.now ends.End p.sessions.end ++ (end_sample p.name.now ends.Silent p.sessions.silent
    ++ (end_sample p.name.now ends.Fault p.sessions.fault ++ (end_sample p.name.now ends.Replaced p.sessions.replaced
    ++ (end_sample p.name.now ends.Device p.sessions.device ++ end_sample p.name.now ends.Error p.sessions.error))))

unfoldable pub sessions_family : List PeerMetrics → List ℕ
sessions_family ps =
    family_head (codes "digbaro_sessions_total") (codes "counter") (codes "Sessions with this peer that began, and ended so.")
    ++ flat_map sessions_of ps

-- ---- resyncs

unfoldable pub resync_sample : List ℕ → List ℕ → List ℕ → ℕ → List ℕ
resync_sample peer role end count =
    sample_line (codes "digbaro_resyncs_total") ((codes "peer", peer) ∷ (codes "role", role) ∷ (codes "end", end) ∷ []) count

-- how many resyncs with a peer ended in each way, for one role of the node
unfoldable pub role_samples : List ℕ → List ℕ → ResyncsEnded → List ℕ
role_samples peer role r =
    resync_sample peer role (codes "finished") r.finished ++ (resync_sample peer role (codes "partial") r.partial
    ++ resync_sample peer role (codes "broken") r.broken)

abbrev pub resyncs_of : PeerMetrics → List ℕ
resyncs_of p = role_samples p.name.now (codes "teacher") p.taught ++ role_samples p.name.now (codes "learner") p.learned

unfoldable pub resyncs_family : List PeerMetrics → List ℕ
resyncs_family ps =
    family_head (codes "digbaro_resyncs_total") (codes "counter") (codes "Resyncs with this peer that ended so, by the role of this node.")
    ++ flat_map resyncs_of ps

-- ---- tables that aren't shared with a peer

abbrev pub tables_name : TablesFamily → List ℕ
tables_name families.Mismatched = codes "digbaro_tables_mismatched"
tables_name families.Unshared = codes "digbaro_tables_unshared"
tables_name families.Undefined = codes "digbaro_tables_undefined"

abbrev pub tables_help : TablesFamily → List ℕ
tables_help families.Mismatched = codes "Tables that this peer defines otherwise than this node."
tables_help families.Unshared = codes "Tables that this peer has defined and this node lacks."
tables_help families.Undefined = codes "Tables of this node that this peer hasn't defined, though it has taught all it has."

abbrev pub tables_value : TablesFamily → PeerMetrics → ℕ
tables_value families.Mismatched p = p.mismatched
tables_value families.Unshared p = p.unshared
tables_value families.Undefined p = p.undefined

unfoldable pub tables_sample : TablesFamily → PeerMetrics → List ℕ
tables_sample family p = sample_line (tables_name family) ((codes "peer", p.name.now) ∷ []) (tables_value family p)

unfoldable pub tables_family : TablesFamily → List PeerMetrics → List ℕ
tables_family family ps = family_head (tables_name family) (codes "gauge") (tables_help family) ++ flat_map (tables_sample family) ps

unfoldable pub tables_families : List PeerMetrics → List ℕ
tables_families ps = tables_family families.Mismatched ps ++ (tables_family families.Unshared ps ++ tables_family families.Undefined ps)

abbrev pub peer_families : List PeerMetrics → List ℕ
peer_families ps = peers_up ps ++ (last_errors ps ++ (sessions_family ps ++ (resyncs_family ps ++ tables_families ps)))
