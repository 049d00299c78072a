use Rattle.std.proofs.Common.{rules, ◌≡◌, Result, Ok, ap, ◌∙◌, subst}
use Rattle.table_cell.specs.Histories.{CellState, Shares, Learns}
use Rattle.table_cell.specs.declared.errors.LearnError.{LearnError}
use Rattle.table_cell.specs.declared.events.CellEvent.{CellEvent}
use Rattle.table_cell.specs.declared.events.CellEvent.TheVariants as events
use Rattle.table_cell.specs.declared.events.CellReply.{CellReply}
use Rattle.table_cell.specs.declared.events.CellReply.TheVariants as replies
use Rattle.table_cell.specs.declared.events.Reply.{Reply}
use Rattle.table_shards.proofs.HeldLaws.{receipt_left, was_ok}
use Rattle.table_shards.proofs.held.lent.learn.Goals as goal

pub returns : goal.returns
returns c =
    let given : CellEvent × CellReply = c.in_ok-entry.entry in
    let ok : c.map_err.result ≡ Ok given = cc in
    let is = was_ok _ c.learn_shared-learned.result c.map_err.result given c.map_err.ensures.cases c.map_err.ensures.variant ok in
    let shares = subst (λ (r : Result (CellEvent × CellReply) LearnError). Shares (λ (x : Result Reply LearnError). Learns c.locked.inside.cell c.args.session c.args.update c.args.now x c.learn_shared-learned.new.self) (events.Learn c.args.session c.args.update c.args.now) replies.Learn r) is c.learn_shared-learned.ensures in
    let made = subst (λ (d : CellState). Learns d c.args.session c.args.update c.args.now (Ok shares.0) c.learn_shared-learned.new.self) c.locked.view_is shares.2 in
    let event = ap (λ (x : CellEvent × CellReply). x.0) shares.1 in
    (shares.0, (search rules, made, receipt_left c.args.locked.now c.learn_shared-learned.new.self c.args.seat.now _ _ c.args.table _ _ _ _ (c.begin.ensures.stays ∙ c.seat.view_is) event (ap (λ (x : CellEvent × CellReply). x.1) shares.1) made.1 c.finish.ensures.added))
