use Rattle.std.proofs.Common.{◌≡◌, ◌<◌, ◌^◌, Option, None, false, refl, sym, ap, subst, ◌∙◌}
use Rattle.std.specs.Prelude.{IfNone}
use Rattle.table_cell.specs.declared.events.CellEvent.TheVariants as events
use Rattle.table_cell.specs.declared.events.CellReply.TheVariants as replies
use Rattle.table_cell.specs.Histories.{is_history_full}
use Rattle.table_cell.specs.declared.errors.PurgeError.{PurgeError}
use Rattle.table_cell.specs.Machine.{purge_refusal}
use Rattle.table_cell.proofs.RefusalLaws.{purge_granted}
use Rattle.table_cell.proofs.HistoryLaws.{cell_goes_on}
use Rattle.table_cell.proofs.cell.TableCell.purge_with_reply.Goals as goal

pub invariant_of-self-2 : goal.invariant_of-self-2
invariant_of-self-2 c =
    let none : purge_refusal c.is_history_full-full.result c.self.inside.table c.args.now ≡ None = sym c.purge_refusal.ensures.refusal ∙ c.in_default.is in
    let granted = purge_granted c.is_history_full-full.result c.self.inside.table c.args.now none in
    let room : is_history_full c.args.self.now ≡ false = sym c.is_history_full-full.ensures ∙ granted.0 in
    cell_goes_on c.self.inside.origin c.self.inside.table c.purge.new.table c.self.inside.history.items c.purge.new.history.items c.self.inside.latest_copies.entries (events.Purge c.args.now) (replies.Purge c.in-Ok.purged.0)
    (subst (λ (r : Option PurgeError). IfNone r (c.args.now < 2 ^ 63)) c.in_default.is c.purge_refusal.ensures.timely) (λ session. refl) (ap is_history_full c.self.view_is ∙ room) c.in-Ok.ensures.step c.in-Ok.ensures.event c.self.invariant
