use Rattle.std.proofs.Common.{◌≡◌, ◌++◌, drop}
use Rattle.std.specs.List.{flat_map}
use Rattle.admin_port.specs.PeerMetrics.{last_error_sample, last_errors}
use Rattle.admin_port.proofs.peer_metrics.push_last_errors.Given as goal

abbrev pub invariant-loop-peer : goal.invariant-loop-peer
invariant-loop-peer l =
    l.text.items ++ flat_map last_error_sample (drop l.peer-index l.peers) ≡ l.fn.text.items ++ last_errors l.peers
