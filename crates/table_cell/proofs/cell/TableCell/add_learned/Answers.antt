use Rattle.std.proofs.Common.{◌≡◌, None, false, refl, sym, ap, subst, ◌∙◌}
use Rattle.table_cell.specs.declared.events.CellEvent.TheVariants as events
use Rattle.table_cell.specs.declared.events.CellReply.TheVariants as replies
use Rattle.table_cell.specs.Histories.{CellState, is_history_full}
use Rattle.table_cell.specs.Machine.{learn_refusal}
use Rattle.table_cell.specs.Parts.{reply_of}
use Rattle.table_cell.proofs.RefusalLaws.{learn_free}
use Rattle.table_cell.proofs.HistoryLaws.{call_made, cell_goes_on}
use Rattle.table_cell.proofs.cell.TableCell.add_learned.Goals as goal

pub learn_row-requires-clause-granted : goal.learn_row-requires-clause-granted
learn_row-requires-clause-granted c =
    let free = learn_free (is_history_full c.args.self.now) c.args.self.now.state c.args.session c.args.update c.args.now c.requires.granted in
    subst (λ (x : CellState). learn_refusal false x.state c.args.session c.args.update c.args.now ≡ None) (sym c.self.view_is) free.1

pub invariant_of-self-2 : goal.invariant_of-self-2
invariant_of-self-2 c =
    let free = learn_free (is_history_full c.args.self.now) c.args.self.now.state c.args.session c.args.update c.args.now c.requires.granted in
    cell_goes_on c.self.inside.origin c.self.inside.table c.learn_row.new.table c.self.inside.history.items c.learn_row.new.history.items c.self.inside.latest_copies.entries (events.Learn c.args.session c.args.update c.args.now) (replies.Learn (reply_of c.args.row))
    c.requires.timely (λ session. refl) (ap is_history_full c.self.view_is ∙ free.0) c.in-Ok.ensures.step c.in-Ok.ensures.event c.self.invariant

pub returns-clause-shared : goal.returns-clause-shared
returns-clause-shared c =
    let free = learn_free (is_history_full c.args.self.now) c.args.self.now.state c.args.session c.args.update c.args.now c.requires.granted in
    (reply_of c.args.row, c.in-Ok.ensures.entry, call_made c.self.inside.origin c.self.inside.table c.learn_row.new.table c.self.inside.history.items c.learn_row.new.history.items c.args.self.now (events.Learn c.args.session c.args.update c.args.now) (replies.Learn (reply_of c.args.row)) c.self.view_is free.0 c.in-Ok.ensures.step c.in-Ok.ensures.event)

pub returns-clause-call : goal.returns-clause-call
returns-clause-call c =
    let free = learn_free (is_history_full c.args.self.now) c.args.self.now.state c.args.session c.args.update c.args.now c.requires.granted in
    call_made c.self.inside.origin c.self.inside.table c.learn_row.new.table c.self.inside.history.items c.learn_row.new.history.items c.args.self.now (events.Learn c.args.session c.args.update c.args.now) (replies.Learn (reply_of c.args.row)) c.self.view_is free.0 c.in-Ok.ensures.step c.in-Ok.ensures.event
