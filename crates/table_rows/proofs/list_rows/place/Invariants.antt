use Rattle.std.proofs.Common.{take}
use Rattle.table_rows.specs.Places.{IsPast}
use Rattle.table_rows.proofs.list_rows.place.Given as goal

abbrev pub invariant-loop-index : goal.invariant-loop-index
invariant-loop-index l = IsPast l.key (take l.index l.rows)
