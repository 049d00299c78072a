use Rattle.std.proofs.Common.{◌≡◌, true, Some, [], ◌++◌, refl, sym, ap, ◌∙◌, subst, List, Option}
use Rattle.table_types.specs.declared.update.Update.{Update}
use Rattle.table_types.specs.Tables.{Definition}
use Rattle.table_types.specs.Rosters.{table_at}
use Rattle.peers_msg.specs.Borrowed.{owned_name}
use Rattle.peers_msg.specs.declared.name_field.NameField.{NameField}
use Rattle.peers_msg.specs.Fitting.{name_fits}
use Rattle.peers_msg.specs.Received.{selected_table}
use Rattle.peers_msg.specs.Spelling.{spelled}
use Rattle.known_state.specs.State.{Step}
use Rattle.known_state.proofs.ReceivedIsOwn.{table_at-id}
use Rattle.teach_writer.specs.Pieces.{planned_field, selection_of}
use Rattle.teach_writer.specs.Sending.{update_sent}
use Rattle.teach_writer.proofs.NextPieces.{other_by_id, selected_by_id, still_selected, updated_so}
use Rattle.teach_writer.proofs.UpdateStepsAreLegal.{selected_selection}
use Rattle.teach_writer.proofs.sending.send_part.Goals as goal

pub write_selected-requires-clause-selected : goal.write_selected-requires-clause-selected
write_selected-requires-clause-selected c =
    let k = c.args.known.now in
    let u = c.args.update.now in
    let d = c.requires.sendable.0 in
    let listed : table_at k.roster u.table ≡ Some d = c.requires.sendable.1 in
    let here : selected_table k.state.received ≡ Some d = selected_by_id k u.table d c.args.selected c.roster-roster.ensures.own listed c.requires.selected (sym c.is_selected.ensures ∙ c.if-is_selected.true) in
    let fit : name_fits d (owned_name c.name_field-field.result) ≡ true = ap (λ (f : NameField). name_fits d f) c.name_field-field.ensures ∙ c.requires.sendable.3 in
    (d, here, table_at-id k.roster u.table d listed, c.requires.sendable.5, c.requires.sendable.2, fit)

pub write_selection-requires-clause-other : goal.write_selection-requires-clause-other
write_selection-requires-clause-other c = other_by_id c.args.known.now.state.received c.args.update.now.table c.args.selected c.requires.selected (sym c.is_selected.ensures ∙ c.if-is_selected.false)

pub returns-then-is_selected-clause-part : goal.returns-then-is_selected-clause-part
returns-then-is_selected-clause-part c =
    let k = c.args.known.now in
    let u = c.args.update.now in
    let d = c.requires.sendable.0 in
    let e = c.write_selected.new.known.state in
    let field : NameField = planned_field u.name c.args.name in
    let listed : table_at k.roster u.table ≡ Some d = c.requires.sendable.1 in
    let here : selected_table k.state.received ≡ Some d = selected_by_id k u.table d c.args.selected c.roster-roster.ensures.own listed c.requires.selected (sym c.is_selected.ensures ∙ c.if-is_selected.true) in
    let field_is : owned_name c.name_field-field.result ≡ field = c.name_field-field.ensures in
    let appended : c.write_selected.new.bytes.items ≡ c.args.bytes.now.items ++ spelled (update_sent k.state (owned_name c.name_field-field.result) u) = c.in_ok-write_selected.ensures.appended in
    let step : (us : List Update) × Step k.state (update_sent k.state (owned_name c.name_field-field.result) u) us e = c.in_ok-write_selected.ensures.step in
    let none : selection_of (table_at k.roster u.table) k.state.received ≡ [] = ap (λ (o : Option Definition). selection_of o k.state.received) listed ∙ sym (selected_selection k.state.received d here) in
    let moved : Step k.state (update_sent k.state field u) step.0 e = subst (λ (f : NameField). Step k.state (update_sent k.state f u) step.0 e) field_is step.1 in (
      update_sent k.state field u,
      appended ∙ ap (λ (f : NameField). c.args.bytes.now.items ++ spelled (update_sent k.state f u)) field_is,
      (none, refl, updated_so k.state e d u field step.0 here (table_at-id k.roster u.table d listed) moved),
    )

pub returns-then-is_selected-clause-selected : goal.returns-then-is_selected-clause-selected
returns-then-is_selected-clause-selected c =
    let k = c.args.known.now in
    let u = c.args.update.now in
    let d = c.requires.sendable.0 in
    let e = c.write_selected.new.known.state in
    let field = owned_name c.name_field-field.result in
    let listed : table_at k.roster u.table ≡ Some d = c.requires.sendable.1 in
    let here : selected_table k.state.received ≡ Some d = selected_by_id k u.table d c.args.selected c.roster-roster.ensures.own listed c.requires.selected (sym c.is_selected.ensures ∙ c.if-is_selected.true) in
    let step : (us : List Update) × Step k.state (update_sent k.state field u) us e = c.in_ok-write_selected.ensures.step in
    let id : d.id ≡ u.table = table_at-id k.roster u.table d listed in
    still_selected k.state e u field d here id (updated_so k.state e d u field step.0 here id step.1)
