use Rattle.std.proofs.Common.{rules, ◌≡◌, Result, Ok, ap, ◌∙◌, subst}
use Rattle.table_cell.specs.Histories.{CellState, SharesWith, Learns}
use Rattle.table_cell.specs.declared.errors.LearnError.{LearnError}
use Rattle.table_cell.specs.declared.events.CellEvent.{CellEvent}
use Rattle.table_cell.specs.declared.events.CellEvent.TheVariants as events
use Rattle.table_cell.specs.declared.events.CellReply.{CellReply}
use Rattle.table_cell.specs.declared.events.CellReply.TheVariants as replies
use Rattle.table_cell.specs.declared.events.Reply.{Reply}
use Rattle.table_shards.proofs.HeldLaws.{receipt_left, was_ok}
use Rattle.table_shards.proofs.held.lent.learn_with_reply.Goals as goal

pub returns : goal.returns
returns c =
    let given : Reply × (CellEvent × CellReply) = (c.in_ok-learned.learned, c.in_ok-learned.entry) in
    let ok : c.map_err.result ≡ Ok given = cc in
    let is = was_ok _ c.learn_with_reply-answer.result c.map_err.result given c.map_err.ensures.cases c.map_err.ensures.variant ok in
    let shares = subst (λ (r : Result (Reply × (CellEvent × CellReply)) LearnError). SharesWith (λ (x : Result Reply LearnError). Learns c.locked.inside.cell c.args.session c.args.update c.args.now x c.learn_with_reply-answer.new.self) (events.Learn c.args.session c.args.update c.args.now) replies.Learn r) is c.learn_with_reply-answer.ensures in
    let made = subst (λ (d : CellState). Learns d c.args.session c.args.update c.args.now (Ok given.0) c.learn_with_reply-answer.new.self) c.locked.view_is shares.1 in
    let event = ap (λ (x : CellEvent × CellReply). x.0) shares.0 in
    (search rules, made, receipt_left c.args.locked.now c.learn_with_reply-answer.new.self c.args.seat.now _ _ c.args.table _ _ _ _ (c.begin.ensures.stays ∙ c.seat.view_is) event (ap (λ (x : CellEvent × CellReply). x.1) shares.0) made.1 c.finish.ensures.added)
