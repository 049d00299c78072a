use Rattle.std.proofs.Common.{◌≡◌, ℕ, false, Some, [], ◌∷◌, ◌++◌, rules, sym, ap, ◌∙◌, subst, List, Option}
use Rattle.std.specs.Prelude.{option_map}
use Rattle.table_types.specs.declared.update.Update.{Update}
use Rattle.table_types.specs.Tables.{Definition}
use Rattle.table_types.specs.Rosters.{table_at}
use Rattle.peers_msg.specs.Received.{Received, selected_table}
use Rattle.peers_msg.specs.Spelling.{spelled}
use Rattle.known_state.specs.State.{Step, IsOwn}
use Rattle.known_state.proofs.ReceivedIsOwn.{table_at-id}
use Rattle.teach_writer.specs.Pieces.{selection_of}
use Rattle.teach_writer.specs.Sending.{is_table, selection}
use Rattle.teach_writer.proofs.NextPieces.{selected_by}
use Rattle.teach_writer.proofs.UpdateStepsAreLegal.{selected_selection, selection_taken, selection_selects, listed_by_id}
use Rattle.teach_writer.proofs.sending.write_selection.Goals as goal

pub selection-requires : goal.selection-requires
selection-requires c =
    let k = c.args.known.now in
    let d = c.in-Some.table.now in
    let listed : table_at k.roster c.args.id ≡ Some d = search rules in
    subst (λ (h : Received). is_table (selected_table h) d.id ≡ false) (sym c.received.ensures)
    (subst (λ (n : ℕ). is_table (selected_table k.state.received) n ≡ false) (sym (table_at-id k.roster c.args.id d listed)) c.requires.other)

pub write_message-requires : goal.write_message-requires
write_message-requires c =
    let k = c.args.known.now in
    let d = c.in-Some.table.now in
    let listed : table_at k.roster c.args.id ≡ Some d = search rules in
    let is : c.in_ok-message.message ∷ [] ≡ selection k.state.received d = search rules in
    selection_taken k d c.in_ok-message.message c.roster-roster.ensures.own (listed_by_id k.roster c.args.id d listed) is

pub returns-clause-written : goal.returns-clause-written
returns-clause-written c =
    let k = c.args.known.now in
    let d = c.in-Some.table.now in
    let m = c.in_ok-message.message in
    let e = c.write_message.new.known.state in
    let listed : table_at k.roster c.args.id ≡ Some d = search rules in
    let is : m ∷ [] ≡ selection k.state.received d = search rules in
    let appended : c.write_message.new.bytes.items ≡ c.args.bytes.now.items ++ spelled m = search rules in
    let step : (us : List Update) × Step k.state m us e × IsOwn k.roster m = search rules in
    let selected = selection_selects k d m step.0 e c.roster-roster.ensures.own (listed_by_id k.roster c.args.id d listed) is step.1 in (
      m,
      appended,
      ap (λ (o : Option Definition). selection_of o k.state.received) listed ∙ sym is,
      selected_by k.state e d m step.0 is step.1,
      ap (λ (o : Option Definition). selection_of o e.received) listed ∙ sym (selected_selection e.received d selected.1),
    )

pub returns-clause-selected : goal.returns-clause-selected
returns-clause-selected c =
    let k = c.args.known.now in
    let d = c.in-Some.table.now in
    let m = c.in_ok-message.message in
    let e = c.write_message.new.known.state in
    let listed : table_at k.roster c.args.id ≡ Some d = search rules in
    let is : m ∷ [] ≡ selection k.state.received d = search rules in
    let step : (us : List Update) × Step k.state m us e × IsOwn k.roster m = search rules in
    let selected = selection_selects k d m step.0 e c.roster-roster.ensures.own (listed_by_id k.roster c.args.id d listed) is step.1 in
    ap (λ (o : Option Definition). option_map (λ t. t.id) o) selected.1 ∙ ap (λ (n : ℕ). Some n) (table_at-id k.roster c.args.id d listed)
