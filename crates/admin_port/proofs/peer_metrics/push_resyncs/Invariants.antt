use Rattle.std.proofs.Common.{◌≡◌, ◌++◌, drop}
use Rattle.std.specs.List.{flat_map}
use Rattle.admin_port.specs.PeerMetrics.{resyncs_family, resyncs_of}
use Rattle.admin_port.proofs.peer_metrics.push_resyncs.Given as goal

abbrev pub invariant-loop-peer : goal.invariant-loop-peer
invariant-loop-peer l =
    l.text.items ++ flat_map resyncs_of (drop l.peer-index l.peers) ≡ l.fn.text.items ++ resyncs_family l.peers
