use Rattle.table_shards.proofs.RollLaws.{are_not_seats, are_seats_where}
use Rattle.table_shards.proofs.roll.are_seats.Goals as goal

pub returns-then-are_seats_of : goal.returns-then-are_seats_of
returns-then-are_seats_of c = are_seats_where c.are_all_there.result c.args.most c.args.seats.now c.if-are_seats_of.ensures c.are_all_there.ensures

pub returns-else-are_seats_of : goal.returns-else-are_seats_of
returns-else-are_seats_of c = are_not_seats c.are_seats_of.result c.args.most c.args.seats.now c.if-are_seats_of.false c.are_seats_of.ensures
