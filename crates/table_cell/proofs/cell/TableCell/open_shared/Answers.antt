use Rattle.std.proofs.Common.{◌≡◌, None, false, refl, sym, ap, ◌∙◌}
use Rattle.table_cell.specs.declared.events.CellEvent.TheVariants as events
use Rattle.table_cell.specs.declared.events.CellReply.TheVariants as replies
use Rattle.table_cell.specs.Histories.{is_history_full}
use Rattle.table_cell.specs.Machine.{open_refusal}
use Rattle.table_cell.proofs.RefusalLaws.{open_granted}
use Rattle.table_cell.proofs.HistoryLaws.{cell_goes_on}
use Rattle.table_cell.proofs.cell.TableCell.open_shared.Goals as goal

pub invariant_of-self-2 : goal.invariant_of-self-2
invariant_of-self-2 c =
    let none : open_refusal c.is_history_full-full.result c.self.inside.table c.args.session ≡ None = sym c.open_refusal.ensures ∙ c.in_default.is in
    let granted = open_granted c.is_history_full-full.result c.self.inside.table c.args.session none in
    let room : is_history_full c.args.self.now ≡ false = sym c.is_history_full-full.ensures ∙ granted.0 in
    cell_goes_on c.self.inside.origin c.self.inside.table c.open.new.table c.self.inside.history.items c.open.new.history.items c.self.inside.latest_copies.entries (events.Open c.args.session c.args.version) replies.Open
    tt (λ session. refl) (ap is_history_full c.self.view_is ∙ room) c.in-Ok.ensures.step c.in-Ok.ensures.event c.self.invariant
