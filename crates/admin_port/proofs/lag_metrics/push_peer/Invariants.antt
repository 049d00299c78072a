use Rattle.std.proofs.Common.{◌≡◌, ◌++◌, drop}
use Rattle.std.specs.List.{flat_map}
use Rattle.admin_port.specs.LagMetrics.{lag_line, lag_lines}
use Rattle.admin_port.proofs.lag_metrics.push_peer.Given as goal

abbrev pub invariant-loop-lag : goal.invariant-loop-lag
invariant-loop-lag l =
    l.text.items ++ flat_map (lag_line l.section l.peer.name.now l.column) (drop l.lag-index l.peer.lags.items) ≡ l.fn.text.items ++ lag_lines l.section l.column l.peer
