use Rattle.std.proofs.Common.{◌≡◌, ◌++◌}
use Rattle.std.specs.List.{flat_map}
use Rattle.node_text.specs.Rows.{row_line}
use Rattle.text_commands.proofs.learning.push_rows.Given as goal

abbrev pub invariant-loop-key : goal.invariant-loop-key
invariant-loop-key l = l.text.items ++ flat_map (row_line l.table) l.key-iterator ≡ l.fn.text.items ++ flat_map (row_line l.table) l.rows.entries
