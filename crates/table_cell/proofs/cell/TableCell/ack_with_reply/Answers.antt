use Rattle.std.proofs.Common.{◌≡◌, None, false, refl, sym, ap, ◌∙◌}
use Rattle.table_cell.specs.declared.events.CellEvent.TheVariants as events
use Rattle.table_cell.specs.declared.events.CellReply.TheVariants as replies
use Rattle.table_cell.specs.Histories.{is_history_full}
use Rattle.table_cell.specs.Machine.{ack_refusal}
use Rattle.table_cell.proofs.RefusalLaws.{ack_free}
use Rattle.table_cell.proofs.HistoryLaws.{cell_goes_on}
use Rattle.table_cell.proofs.cell.TableCell.ack_with_reply.Goals as goal

pub invariant_of-self-2 : goal.invariant_of-self-2
invariant_of-self-2 c =
    let none : ack_refusal c.is_history_full-full.result c.self.inside.table c.args.session c.args.number ≡ None = sym c.ack_refusal.ensures ∙ c.in_default.is in
    let granted = ack_free c.is_history_full-full.result c.self.inside.table c.args.session c.args.number none in
    let room : is_history_full c.args.self.now ≡ false = sym c.is_history_full-full.ensures ∙ granted.0 in
    cell_goes_on c.self.inside.origin c.self.inside.table c.acknowledge.new.table c.self.inside.history.items c.acknowledge.new.history.items c.self.inside.latest_copies.entries (events.Ack c.args.session c.args.number) (replies.Ack c.in-Ok.settled.0)
    tt (λ session. refl) (ap is_history_full c.self.view_is ∙ room) c.in-Ok.ensures.step c.in-Ok.ensures.event c.self.invariant
