use Rattle.std.proofs.Common.{◌≡◌, ◌++◌, drop}
use Rattle.std.specs.List.{flat_map}
use Rattle.admin_port.specs.Reports.{peer_lines, table_line}
use Rattle.admin_port.proofs.reports.push_peer_lines.Given as goal

abbrev pub invariant-loop-table : goal.invariant-loop-table
invariant-loop-table l =
    l.text.items ++ flat_map (table_line l.section l.peer.name.now) (drop l.table-index l.peer.tables.items) ≡ l.fn.text.items ++ peer_lines l.section l.peer
