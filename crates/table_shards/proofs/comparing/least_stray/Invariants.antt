use Rattle.std.proofs.Common.{take}
use Rattle.table_shards.specs.Agreement.{Strays}
use Rattle.table_shards.proofs.comparing.least_stray.Given as goal

abbrev pub invariant-loop-seat : goal.invariant-loop-seat
invariant-loop-seat l = Strays l.cell (take l.seat-index l.seats) l.least
