use Rattle.std.proofs.Common.{subst}
use Rattle.table_shards.specs.Receipts.{SeatState, PlacesRise, receipts_of, seen_of}
use Rattle.table_shards.specs.Pages.{seat_of}
use Rattle.table_shards.proofs.PageLaws.{rise_of}
use Rattle.table_shards.proofs.seat.Seat.receipts.Goals as goal

pub returns-clause-rising : goal.returns-clause-rising
returns-clause-rising c =
    subst (λ (s : SeatState). PlacesRise 0 (receipts_of c.args.table s) (seen_of c.args.table s)) c.self.view_is
    (rise_of c.args.table (seat_of c.self.inside.book) c.self.invariant)
