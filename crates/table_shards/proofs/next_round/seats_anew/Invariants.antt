use Rattle.std.proofs.Common.{◌≡◌, map, take}
use Rattle.table_shards.specs.Anew.{seat_anew}
use Rattle.table_shards.proofs.next_round.seats_anew.Given as goal

abbrev pub invariant-loop-seat : goal.invariant-loop-seat
invariant-loop-seat l = l.made.items ≡ map (λ s. seat_anew l.tables s.number) (take l.seat-index l.seats)
