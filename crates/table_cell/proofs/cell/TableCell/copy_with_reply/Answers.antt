use Rattle.std.proofs.Common.{◌≡◌, List, false, sym, ap, subst, ◌∙◌}
use Rattle.table_cell.specs.declared.events.CellEvent.{CellEvent}
use Rattle.table_cell.specs.declared.events.CellEvent.TheVariants as events
use Rattle.table_cell.specs.declared.events.CellReply.{CellReply}
use Rattle.table_cell.specs.declared.events.CellReply.TheVariants as replies
use Rattle.table_cell.specs.Cells.{cell_of}
use Rattle.table_cell.specs.Histories.{IsSoundCell, is_history_full}
use Rattle.table_cell.specs.Machine.{Step, TableState}
use Rattle.table_cell.proofs.RunLaws.{made_sound}
use Rattle.table_cell.proofs.HistoryLaws.{is_made}
use Rattle.table_cell.proofs.cell.TableCell.copy_with_reply.Goals as goal

pub invariant_of-self-2 : goal.invariant_of-self-2
invariant_of-self-2 c =
    let a = c.self.inside in
    let event = events.Copy c.args.session c.args.kind c.args.limit c.args.now in
    let reply = replies.Copy c.in_ok-batch.batch in
    let room : is_history_full (cell_of a.origin a.history.items a.table) ≡ false = ap is_history_full c.self.view_is ∙ sym c.is_history_full.ensures ∙ c.if-is_history_full.false in
    let step : Step a.table event reply c.add_copy.new.table = subst (λ (s : TableState). Step s event reply c.add_copy.new.table) c.batch.ensures.stays c.in-Ok.ensures.step in
    record {
      sound = made_sound (cell_of a.origin a.history.items a.table) (cell_of a.origin c.add_copy.new.history.items c.add_copy.new.table) event reply c.in_ok-batch.ensures.timely room c.self.invariant.sound
          (is_made a.origin a.table c.add_copy.new.table a.history.items c.add_copy.new.history.items event reply step c.in-Ok.ensures.event);
      latest = c.add_copy.ensures.latest a.origin.held c.self.invariant.latest;
    }

pub invariant_of-self-in_default : goal.invariant_of-self-in_default
invariant_of-self-in_default c =
    let a = c.self.inside in
    let stays : c.add_copy.new.table ≡ a.table = c.in_default.ensures.stays ∙ c.batch.ensures.stays in
    record {
      sound = subst (λ (s : TableState). IsSoundCell (cell_of a.origin c.add_copy.new.history.items s)) (sym stays)
          (subst (λ (hs : List (CellEvent × CellReply)). IsSoundCell (cell_of a.origin hs a.table)) (sym c.in_default.ensures.no_event) c.self.invariant.sound);
      latest = c.add_copy.ensures.latest a.origin.held c.self.invariant.latest;
    }
