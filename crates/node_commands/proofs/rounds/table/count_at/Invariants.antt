use Rattle.std.proofs.Common.{◌≡◌, drop}
use Rattle.table_types.specs.declared.key.Key.TheVariants as keys
use Rattle.table_rows.specs.Rows.{row_at}
use Rattle.node_commands.proofs.rounds.table.count_at.Given as goal

abbrev pub invariant-loop-key : goal.invariant-loop-key
invariant-loop-key l = row_at (keys.Int l.number) (drop l.key-index l.rows) ≡ row_at (keys.Int l.number) l.rows
