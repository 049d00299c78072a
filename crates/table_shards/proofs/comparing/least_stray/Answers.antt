use Rattle.std.proofs.Common.{ℕ, ◌∷◌, ◌++◌, [], List, Option, ap, sym, subst, take, ◌∙◌}
use Rattle.table_shards.specs.Receipts.{SeatState}
use Rattle.table_shards.specs.Agreement.{Strays, lesser}
use Rattle.table_shards.proofs.CompareLaws.{grows_by, next_taken, stays}
use Rattle.table_shards.proofs.comparing.least_stray.Goals.{then-not-has_entries, else-not-has_entries}
use Rattle.table_shards.proofs.comparing.least_stray.Goals as goal

pub loop-seat-preserved : goal.loop-seat-preserved
loop-seat-preserved c =
    let cell = c.args.cell.now in
    let seat : SeatState = c.seat-item.result in
    let before = take c.loop-seat.seat-index c.args.seats.now in
    let least = c.loop-seat.least in
    let next : Strays cell (before ++ seat ∷ []) c.if-not-has_entries.least = elim c.if-not-has_entries.branch [
      | then-not-has_entries w ↦
          subst (λ (o : Option ℕ). Strays cell (before ++ seat ∷ []) o) (sym w.least-is)
          (grows_by cell before seat least w.lesser.result (w.lesser.ensures ∙ ap (lesser least) w.number.ensures) c.loop-seat.invariant w.if-not-has_entries.ensures)
      | else-not-has_entries w ↦
          subst (λ (o : Option ℕ). Strays cell (before ++ seat ∷ []) o) (sym w.least-is) (stays cell before seat least c.loop-seat.invariant w.if-not-has_entries.ensures)
    ] in
    subst (λ (ss : List SeatState). Strays cell ss c.if-not-has_entries.least) (sym (next_taken c.args.seats.now c.loop-seat.seat-index seat c.loop-seat-test.true c.seat-item.is)) next
