-- The families of metrics that say what each peer lacks of each table (profile).
use Rattle.std.specs.Prelude.{◌++◌, ℕ, List, [], ◌∷◌, Option, codes, flat_map}
use Rattle.admin_port.specs.Samples.{family_head, sample_line, seconds_line}
use Rattle.admin_port.specs.TableNames.{shown_name}
use Rattle.admin_port.specs.declared.lag_metrics.Column.{Column}
use Rattle.admin_port.specs.declared.lag_metrics.Column.TheVariants as columns
use Rattle.admin_port.specs.declared.lag_metrics.TableLag.{TableLag}
use Rattle.admin_port.specs.declared.peer_metrics.PeerMetrics.{PeerMetrics}

-- ---- what a family has of each peer and table

abbrev pub column_name : Column → List ℕ
column_name columns.Rows = codes "digbaro_peer_lag_rows"
column_name columns.Age = codes "digbaro_peer_lag_seconds"

abbrev pub column_help : Column → List ℕ
column_help columns.Rows = codes "Rows of this table that this peer has not acknowledged."
column_help columns.Age = codes "Age of the oldest row of this table that this peer has not acknowledged."

-- the sample with these labels
abbrev pub lag_sample : Column → List (List ℕ × List ℕ) → TableLag → List ℕ
lag_sample columns.Rows labels lag = sample_line (column_name columns.Rows) labels lag.rows
lag_sample columns.Age labels lag = seconds_line (column_name columns.Age) labels lag.age

-- the sample of what a peer lacks of a table
unfoldable pub lag_line : Option (List ℕ) → List ℕ → Column → TableLag → List ℕ
lag_line section peer column lag = lag_sample column ((codes "peer", peer) ∷ (codes "name", shown_name section lag.table.now.name) ∷ []) lag

-- the samples of a peer
unfoldable pub lag_lines : Option (List ℕ) → Column → PeerMetrics → List ℕ
lag_lines section column p = flat_map (lag_line section p.name.now column) p.lags.items

-- ---- families

unfoldable pub column_family : Option (List ℕ) → Column → List PeerMetrics → List ℕ
column_family section column ps =
    family_head (column_name column) (codes "gauge") (column_help column) ++ flat_map (lag_lines section column) ps

abbrev pub lag_families : Option (List ℕ) → List PeerMetrics → List ℕ
lag_families section ps = column_family section columns.Rows ps ++ column_family section columns.Age ps
