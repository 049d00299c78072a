use Rattle.std.proofs.Common.{◌≡◌, List, map, sym, ap, ◌∙◌, subst}
use Rattle.table_shards.specs.declared.unlocked.UnlockedTable.{UnlockedTable}
use Rattle.table_shards.specs.Anew.{seat_anew}
use Rattle.table_shards.specs.NextRounds.{AreSeatsAnew}
use Rattle.table_shards.specs.Receipts.{SeatState}
use Rattle.table_shards.proofs.NextLaws.{are_anew}
use Rattle.table_shards.proofs.unlocked.Audit.next_round.Goals as goal

-- src/next_round.rt:105:5
pub returns-clause-seats : goal.returns-clause-seats
returns-clause-seats c =
    let a = c.args.self in
    let made : c.in-Ok.seats.items ≡ map (λ (s : SeatState). seat_anew c.tables-2.result.now s.number) c.seats.result.now = c.in-Ok.ensures in
    let same : c.in-Ok.seats.items ≡ map (λ (s : SeatState). seat_anew a.unlocked.tables s.number) a.seats =
    made
    ∙ ap (λ (ts : List UnlockedTable). map (λ (s : SeatState). seat_anew ts s.number) c.seats.result.now) c.tables-2.ensures.tables
    ∙ ap (λ (ss : List SeatState). map (λ (s : SeatState). seat_anew a.unlocked.tables s.number) ss) c.seats.ensures.seats in
    subst (λ (news : List SeatState). AreSeatsAnew a.unlocked.tables a.seats news) (sym same) (are_anew a.unlocked.tables a.seats)
