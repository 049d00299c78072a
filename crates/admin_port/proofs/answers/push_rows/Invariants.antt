use Rattle.std.proofs.Common.{◌≡◌, ◌++◌, drop}
use Rattle.std.specs.List.{flat_map}
use Rattle.node_text.specs.Rows.{row_line}
use Rattle.admin_port.proofs.answers.push_rows.Given as goal

abbrev pub invariant-loop-key : goal.invariant-loop-key
invariant-loop-key l =
    l.text.items ++ flat_map (row_line l.table) (drop l.key-index l.rows) ≡ l.fn.text.items ++ flat_map (row_line l.table) l.rows
