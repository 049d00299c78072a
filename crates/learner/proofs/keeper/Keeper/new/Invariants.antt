use Rattle.std.proofs.Common.{◌≡◌, ◌++◌, drop}
use Rattle.learner.proofs.RowsStandByTable.{no_rows}
use Rattle.learner.proofs.keeper.Keeper.new.Given as goal

abbrev pub invariant-loop : goal.invariant-loop
invariant-loop l = l.rows_of_tables.items ++ no_rows (drop l.index l.items) ≡ no_rows l.items
