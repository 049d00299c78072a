use Rattle.std.proofs.Common.{◌≡◌, ◌++◌, drop}
use Rattle.std.specs.List.{flat_map}
use Rattle.admin_port.specs.PeerMetrics.{peers_up, up_sample}
use Rattle.admin_port.proofs.peer_metrics.push_up.Given as goal

abbrev pub invariant-loop-peer : goal.invariant-loop-peer
invariant-loop-peer l =
    l.text.items ++ flat_map up_sample (drop l.peer-index l.peers) ≡ l.fn.text.items ++ peers_up l.peers
