use Rattle.std.proofs.Common.{◌≡◌, ℕ, true, List, Option, None, refl, sym, ap, ◌∙◌, subst}
use Rattle.table_types.specs.declared.update.Update.{Update}
use Rattle.table_types.specs.declared.update.Value.{Value}
use Rattle.table_types.specs.Updates.{is_optional_word}
use Rattle.peers_msg.specs.Borrowed.{owned_name}
use Rattle.peers_msg.specs.Messages.{is_small}
use Rattle.peers_msg.specs.declared.message.Message.TheVariants as messages
use Rattle.peers_msg.proofs.DataLimits.{row_small}
use Rattle.known_state.specs.State.{Step}
use Rattle.known_state.specs.Effects.{refusal_of}
use Rattle.known_state.specs.LastNumbers.{last_of}
use Rattle.known_state.specs.Cost.{number_sent, sent_as}
use Rattle.known_state.proofs.BatchIsOfRoster.{row_of_fits}
use Rattle.teach_writer.proofs.UpdateStepsAreLegal.{sent_fits_received, sent_unrefused}
use Rattle.teach_writer.proofs.sending.write_selected.Goals as goal

pub append_update-requires-clause-small : goal.append_update-requires-clause-small
append_update-requires-clause-small c =
    let u = c.args.update.now in
    let d = c.requires.selected.0 in
    subst (λ (vs : List Value). is_small u.key vs ≡ true) (sym c.as_slice-values.ensures) (row_small d u.key u.values c.requires.selected.3 (row_of_fits d u c.requires.selected.4))

pub follow_update-requires-clause-unrefused : goal.follow_update-requires-clause-unrefused
follow_update-requires-clause-unrefused c =
    let s = c.args.known.now.state in
    let u = c.args.update.now in
    let d = c.requires.selected.0 in
    let field = owned_name c.args.field in
    let here : c.last.result ≡ last_of s.last_numbers u.table = c.last.ensures ∙ ap (λ (l : List (ℕ × ℕ)). last_of l u.table) c.last_numbers.ensures in
    let last_is : c.last.result ≡ last_of s.last_numbers d.id = subst (λ (n : ℕ). c.last.result ≡ last_of s.last_numbers n) (sym c.requires.selected.2) here in
    subst (λ (n : Option ℕ). refusal_of s n field ≡ None) (sym c.number_sent-number.ensures.sent) (sent_unrefused s d u c.last.result field last_is c.requires.selected.1 c.requires.reads)

pub returns-clause-step : goal.returns-clause-step
returns-clause-step c =
    let s = c.args.known.now.state in
    let e = c.follow_update.new.self.state in
    let u = c.args.update.now in
    let d = c.requires.selected.0 in
    let field = owned_name c.args.field in
    let here : c.last.result ≡ last_of s.last_numbers u.table = c.last.ensures ∙ ap (λ (l : List (ℕ × ℕ)). last_of l u.table) c.last_numbers.ensures in
    let word : is_optional_word (number_sent c.last.result u.number) ≡ true = subst (λ (n : Option ℕ). is_optional_word n ≡ true) c.number_sent-number.ensures.sent c.number_sent-number.ensures.word in
    let fit = sent_fits_received s.received d u c.last.result field c.requires.selected.1 c.requires.selected.3 c.requires.selected.5 c.requires.selected.4 word in
    let step : (us : List Update) × Step s (messages.Update (sent_as c.last.result field u)) us e = c.in_ok-follow_update.ensures.step (sent_as c.last.result field u) (sym c.number_sent-number.ensures.sent) refl fit in
    subst (λ (l : Option ℕ). (us : List Update) × Step s (messages.Update (sent_as l field u)) us e) here step
