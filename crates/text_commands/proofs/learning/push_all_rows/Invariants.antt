use Rattle.std.proofs.Common.{◌≡◌, ◌++◌, drop}
use Rattle.std.specs.List.{flat_map}
use Rattle.text_commands.specs.Learning.{table_lines, rows_text}
use Rattle.text_commands.proofs.learning.push_all_rows.Given as goal

abbrev pub invariant-loop-table : goal.invariant-loop-table
invariant-loop-table l =
    l.text.items ++ flat_map (table_lines l.learner) (drop l.table-index l.table-items) ≡ l.fn.text.items ++ rows_text l.learner
