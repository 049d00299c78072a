use Rattle.std.proofs.Common.{◌≡◌, ◌++◌, drop}
use Rattle.std.specs.List.{flat_map}
use Rattle.text_commands.specs.Answers.{stored_row_line}
use Rattle.text_commands.proofs.listing.push_entries.Given as goal

abbrev pub invariant-loop-entry : goal.invariant-loop-entry
invariant-loop-entry l =
    l.text.items ++ flat_map (stored_row_line l.table) (drop l.entry-index l.rows) ≡ l.fn.text.items ++ flat_map (stored_row_line l.table) l.rows
