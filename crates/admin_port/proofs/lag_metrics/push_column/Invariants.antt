use Rattle.std.proofs.Common.{◌≡◌, ◌++◌, drop}
use Rattle.std.specs.List.{flat_map}
use Rattle.admin_port.specs.LagMetrics.{column_family, lag_lines}
use Rattle.admin_port.proofs.lag_metrics.push_column.Given as goal

abbrev pub invariant-loop-peer : goal.invariant-loop-peer
invariant-loop-peer l =
    l.text.items ++ flat_map (lag_lines l.section l.column) (drop l.peer-index l.peers) ≡ l.fn.text.items ++ column_family l.section l.column l.peers
