use Rattle.std.proofs.Common.{◌≡◌, ◌++◌, drop}
use Rattle.std.specs.List.{flat_map}
use Rattle.admin_port.specs.Reports.{peer_lines}
use Rattle.admin_port.proofs.reports.push_peers.Given as goal

abbrev pub invariant-loop-peer : goal.invariant-loop-peer
invariant-loop-peer l =
    l.text.items ++ flat_map (peer_lines l.section) (drop l.peer-index l.peers) ≡ l.fn.text.items ++ flat_map (peer_lines l.section) l.peers
