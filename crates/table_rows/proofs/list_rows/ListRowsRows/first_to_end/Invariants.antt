use Rattle.std.proofs.Common.{take, option_map}
use Rattle.table_rows.proofs.FirstLaws.{IsFirst}
use Rattle.table_rows.proofs.list_rows.ListRowsRows.first_to_end.Given as goal

-- the first to end so far
abbrev pub invariant-loop-entry : goal.invariant-loop-entry
invariant-loop-entry l = IsFirst (take l.entry-index l.self) (option_map (λ e. (e.0.now, e.1.now)) l.first)
