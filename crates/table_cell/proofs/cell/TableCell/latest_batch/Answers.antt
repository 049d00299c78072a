use Rattle.std.proofs.Common.{◌≡◌, Some, sym, subst, ◌∙◌}
use Rattle.std.specs.Prelude.{option_copied}
use Rattle.table_cell.specs.Histories.{CellState, kept_batch}
use Rattle.table_cell.specs.Cells.{IsLatestCopy}
use Rattle.table_cell.proofs.HistoryLaws.{batch_is, copied_is}
use Rattle.table_cell.proofs.cell.TableCell.latest_batch.Goals as goal

pub returns-in-Some : goal.returns-in-Some
returns-in-Some c =
    let a = c.self.inside in
    let latest : IsLatestCopy a.origin.held a.history.items c.args.session (Some c.in-Some.entry.now) =
    subst (IsLatestCopy a.origin.held a.history.items c.args.session) (sym c.in-Some.ensures.value) (c.self.invariant.latest c.args.session) in
    subst (λ (x : CellState). option_copied c.batch.result ≡ kept_batch c.args.session x) c.self.view_is
    (c.batch.ensures ∙ copied_is c.args.session a.origin.held a.history.items (Some c.in-Some.entry.now) latest ∙ sym (batch_is c.args.session a.origin a.history.items a.table))
