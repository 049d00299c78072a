-- The page of metrics (profile; the families whose names begin with `haproxy_` are those of HAProxy's exporter).
use Rattle.std.specs.Prelude.{◌++◌, ℕ, List, [], ◌∷◌, codes, flat_map}
use Rattle.std.specs.Fmt.{decimal}
use Rattle.admin_port.specs.LagMetrics.{lag_families}
use Rattle.admin_port.specs.Samples.{family_head, sample_line}
use Rattle.admin_port.specs.PeerMetrics.{as_number, peer_families}
use Rattle.admin_port.specs.ProcessMetrics.{process_families}
use Rattle.admin_port.specs.TableMetrics.{table_families}
use Rattle.admin_port.specs.declared.metric_families.NodeFamily.{NodeFamily}
use Rattle.admin_port.specs.declared.metric_families.NodeFamily.TheVariants as families
use Rattle.admin_port.specs.declared.metrics_pages.Metrics.{Metrics}
use Rattle.admin_port.specs.declared.metrics_pages.NodeMetrics.{NodeMetrics}
use Rattle.admin_port.specs.declared.metrics_pages.PassedOver.{PassedOver}
use Rattle.admin_port.specs.declared.metrics_pages.FaultCount.{FaultCount}
use Rattle.admin_port.specs.declared.metrics_pages.RefusedHellos.{RefusedHellos}

-- ---- families of one sample

abbrev pub family_name : NodeFamily → List ℕ
family_name families.UpToDate = codes "digbaro_up_to_date"
family_name families.ActivePeers = codes "haproxy_process_active_peers"
family_name families.ConnectedPeers = codes "haproxy_process_connected_peers"
family_name families.TablesLeft = codes "digbaro_tables_left"
family_name families.RowsLearned = codes "digbaro_rows_learned_total"
family_name families.RowsTaught = codes "digbaro_rows_taught_total"
family_name families.BytesSent = codes "digbaro_bytes_sent_total"
family_name families.BytesReceived = codes "digbaro_bytes_received_total"
family_name families.LogLinesDropped = codes "digbaro_log_lines_dropped_total"
family_name families.Uptime = codes "digbaro_uptime_seconds"

abbrev pub family_kind : NodeFamily → List ℕ
family_kind families.UpToDate = codes "gauge"
family_kind families.ActivePeers = codes "gauge"
family_kind families.ConnectedPeers = codes "gauge"
family_kind families.TablesLeft = codes "gauge"
family_kind families.RowsLearned = codes "counter"
family_kind families.RowsTaught = codes "counter"
family_kind families.BytesSent = codes "counter"
family_kind families.BytesReceived = codes "counter"
family_kind families.LogLinesDropped = codes "counter"
family_kind families.Uptime = codes "gauge"

abbrev pub family_help : NodeFamily → List ℕ
family_help families.UpToDate = codes "Whether this node is up to date."
family_help families.ActivePeers = codes "Current number of verified active peers connections."
family_help families.ConnectedPeers = codes "Current number of peers having passed the connection step."
family_help families.TablesLeft = codes "Tables that were left in the sessions that stand."
family_help families.RowsLearned = codes "Rows learned from peers."
family_help families.RowsTaught = codes "Rows taught to peers."
family_help families.BytesSent = codes "Bytes sent to peers."
family_help families.BytesReceived = codes "Bytes received from peers."
family_help families.LogLinesDropped = codes "Lines of the log that were dropped."
family_help families.Uptime = codes "Seconds since this node began."

abbrev pub family_value : NodeFamily → NodeMetrics → ℕ
family_value families.UpToDate n = as_number n.up_to_date
family_value families.ActivePeers n = n.active_peers
family_value families.ConnectedPeers n = n.connected_peers
family_value families.TablesLeft n = n.tables_left
family_value families.RowsLearned n = n.rows_learned
family_value families.RowsTaught n = n.rows_taught
family_value families.BytesSent n = n.bytes_sent
family_value families.BytesReceived n = n.bytes_received
family_value families.LogLinesDropped n = n.log_lines_dropped
family_value families.Uptime n = n.uptime_seconds

unfoldable pub node_family : NodeFamily → NodeMetrics → List ℕ
node_family f n = family_head (family_name f) (family_kind f) (family_help f) ++ sample_line (family_name f) [] (family_value f n)

unfoldable pub peer_counts : NodeMetrics → List ℕ
peer_counts n =
    node_family families.UpToDate n ++ (node_family families.ActivePeers n
    ++ (node_family families.ConnectedPeers n ++ node_family families.TablesLeft n))

unfoldable pub row_counts : NodeMetrics → List ℕ
row_counts n =
    node_family families.RowsLearned n ++ (node_family families.RowsTaught n
    ++ (node_family families.BytesSent n ++ node_family families.BytesReceived n))

-- ---- families with a label

unfoldable pub passed_sample : List ℕ → ℕ → List ℕ
passed_sample why count = sample_line (codes "digbaro_passed_over_total") ((codes "why", why) ∷ []) count

unfoldable pub passed_head : List ℕ
passed_head = family_head (codes "digbaro_passed_over_total") (codes "counter") (codes "What came from peers and was passed over.")

unfoldable pub passed_family : PassedOver → List ℕ
passed_family p =
    passed_head
    ++ (passed_sample (codes "definition") p.definition ++ (passed_sample (codes "value") p.value
    ++ (passed_sample (codes "slot") p.slot ++ passed_sample (codes "type") p.data_type)))

unfoldable pub fault_sample : FaultCount → List ℕ
fault_sample f = sample_line (codes "digbaro_faults_total") ((codes "fault", f.name.now) ∷ []) f.count

unfoldable pub faults_family : List FaultCount → List ℕ
faults_family fs =
    family_head (codes "digbaro_faults_total") (codes "counter") (codes "Faults of what peers sent.") ++ flat_map fault_sample fs

unfoldable pub refused_hellos_sample : RefusedHellos → List ℕ
refused_hellos_sample h = sample_line (codes "digbaro_hellos_refused_total") ((codes "status", decimal h.status) ∷ []) h.count

unfoldable pub refused_hellos_family : List RefusedHellos → List ℕ
refused_hellos_family hs =
    family_head (codes "digbaro_hellos_refused_total") (codes "counter") (codes "Hellos that this node refused with this status.")
    ++ flat_map refused_hellos_sample hs

-- ---- the page

abbrev pub node_families : NodeMetrics → List FaultCount → List ℕ
node_families n fs =
    peer_counts n ++ (row_counts n ++ (passed_family n.passed_over ++ (faults_family fs
    ++ (node_family families.LogLinesDropped n ++ node_family families.Uptime n))))

abbrev pub metrics_page : Metrics → List ℕ
metrics_page m =
    table_families m.section.now m.tables.items ++ (peer_families m.peers.items ++ (lag_families m.section.now m.peers.items
    ++ (node_families m.node m.faults.items ++ (refused_hellos_family m.refused_hellos.items ++ process_families m.build m.process))))
