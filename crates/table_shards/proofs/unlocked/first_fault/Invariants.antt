use Rattle.std.proofs.Common.{take}
use Rattle.table_shards.specs.Audits.{Faults}
use Rattle.table_shards.proofs.unlocked.first_fault.Given as goal

abbrev pub invariant-loop-table : goal.invariant-loop-table
invariant-loop-table l = Faults l.seats (take l.table-index l.tables) l.least
