use Rattle.std.proofs.Common.{◌≡◌, ◌++◌, drop}
use Rattle.std.specs.List.{flat_map}
use Rattle.admin_port.specs.PeerMetrics.{tables_family, tables_sample}
use Rattle.admin_port.proofs.peer_metrics.push_tables_family.Given as goal

abbrev pub invariant-loop-peer : goal.invariant-loop-peer
invariant-loop-peer l =
    l.text.items ++ flat_map (tables_sample l.family) (drop l.peer-index l.peers) ≡ l.fn.text.items ++ tables_family l.family l.peers
