use Rattle.std.proofs.Common.{option_map}
use Rattle.table_rows.proofs.FirstLaws.{IsFoundBefore}
use Rattle.table_rows.proofs.map_rows.MapRowsRows.first_to_end.Given as goal

abbrev pub invariant-loop-entry : goal.invariant-loop-entry
invariant-loop-entry l = IsFoundBefore l.entry-iterator l.self (option_map (λ e. (e.0.now, e.1.now)) l.first)
