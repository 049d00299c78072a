use Rattle.std.proofs.Common.{rules, ◌≡◌, ℕ, Result, Ok, ap, ◌∙◌, subst}
use Rattle.table_cell.specs.Histories.{CellState, Shares, Tracks}
use Rattle.table_cell.specs.declared.errors.TrackError.{TrackError}
use Rattle.table_cell.specs.declared.events.CellEvent.{CellEvent}
use Rattle.table_cell.specs.declared.events.CellEvent.TheVariants as events
use Rattle.table_cell.specs.declared.events.CellReply.{CellReply}
use Rattle.table_cell.specs.declared.events.CellReply.TheVariants as replies
use Rattle.table_cell.specs.declared.events.Reply.{Reply}
use Rattle.table_shards.specs.Receipts.{SeatState}
use Rattle.table_shards.proofs.HeldLaws.{receipt_left, was_ok}
use Rattle.table_shards.proofs.held.lent.track.Goals as goal

pub returns : goal.returns
returns c =
    let given : CellEvent × CellReply = c.in_ok-entry.entry in
    let ok : c.map_err.result ≡ Ok given = cc in
    let is = was_ok _ c.track_shared-tracked.result c.map_err.result given c.map_err.ensures.cases c.map_err.ensures.variant ok in
    let shares = subst (λ (r : Result (CellEvent × CellReply) TrackError). Shares (λ (x : Result Reply TrackError). Tracks c.locked.inside.cell c.seat.inside.book.number c.args.key c.args.change c.args.now x c.track_shared-tracked.new.self) (events.Track c.seat.inside.book.number c.args.key c.args.change c.args.now) replies.Track r) is c.track_shared-tracked.ensures in
    let number = ap (λ (s : SeatState). s.number) c.seat.view_is in
    let made = subst (λ (n : ℕ). Tracks c.args.locked.now n c.args.key c.args.change c.args.now (Ok shares.0) c.track_shared-tracked.new.self) number
    (subst (λ (d : CellState). Tracks d c.seat.inside.book.number c.args.key c.args.change c.args.now (Ok shares.0) c.track_shared-tracked.new.self) c.locked.view_is shares.2) in
    let event = ap (λ (x : CellEvent × CellReply). x.0) shares.1 ∙ ap (λ (n : ℕ). events.Track n c.args.key c.args.change c.args.now) number in
    (shares.0, (search rules, made, receipt_left c.args.locked.now c.track_shared-tracked.new.self c.args.seat.now _ _ c.args.table _ _ _ _ (c.begin.ensures.stays ∙ c.seat.view_is) event (ap (λ (x : CellEvent × CellReply). x.1) shares.1) made.1 c.finish.ensures.added))
