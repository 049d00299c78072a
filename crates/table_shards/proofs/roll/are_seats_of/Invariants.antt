use Rattle.std.proofs.Common.{take}
use Rattle.std.specs.List.{AllByRecursion}
use Rattle.table_shards.specs.Roll.{IsSeatOf}
use Rattle.table_shards.proofs.roll.are_seats_of.Given as goal

abbrev pub invariant-loop-seat : goal.invariant-loop-seat
invariant-loop-seat l = AllByRecursion (IsSeatOf l.most) (take l.seat-index l.seats)
