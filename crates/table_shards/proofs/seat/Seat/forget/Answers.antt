use Rattle.std.proofs.Common.{ap, ◌∙◌}
use Rattle.table_shards.specs.Receipts.{SeatState, receipts_of}
use Rattle.table_shards.specs.Pages.{seat_of}
use Rattle.table_shards.proofs.ForgetLaws.{no_receipts}
use Rattle.table_shards.proofs.seat.Seat.forget.Goals as goal

pub returns-clause-none : goal.returns-clause-none
returns-clause-none c = ap (λ (s : SeatState). receipts_of c.args.table s) c.forget.ensures.forgotten ∙ no_receipts c.args.table (seat_of c.self.inside.book)
