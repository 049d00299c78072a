use Rattle.std.proofs.Common.{◌≡◌, true, Option, Some, sym, ap, ◌∙◌, rules}
use Rattle.std.specs.Prelude.{option_map}
use Rattle.peers_msg.specs.declared.message.Message.TheVariants as messages
use Rattle.peers_msg.specs.Fitting.{fits}
use Rattle.peers_msg.specs.Received.{selected_table}
use Rattle.peers_msg.specs.Borrowed.{owned_name}
use Rattle.known_state.specs.Known.{as_step_error, update_refusal}
use Rattle.known_state.specs.declared.effect.Refusal.{Refusal}
use Rattle.known_state.specs.declared.known.StepError.{StepError}
use Rattle.known_state.proofs.FitsOrIsRefused.{misfit, update_fits_received}
use Rattle.known_state.proofs.LegalEffects.{refusal_here}
use Rattle.known_state.proofs.known.Known.refusal_of_update.Goals as goal

pub returns-then-not-fits : goal.returns-then-not-fits
returns-then-not-fits c = sym (misfit c.args.self.now c.args.update.now c.in-Some.table.now (search rules) (search rules))

pub returns-in-Some-refusal : goal.returns-in-Some-refusal
returns-in-Some-refusal c =
    let k = c.args.self.now in
    let u = c.args.update.now in
    let d = c.in-Some.table.now in
    let fit : fits k.state.received (messages.Update u) ≡ true = update_fits_received k.state.received u d (search rules) (search rules) c.id-id.ensures.defined in
    let passed : update_refusal k u (selected_table k.state.received) ≡ option_map as_step_error c.refusal.result = refusal_here k c.state.result.now u d c.number.result (owned_name c.lend.result) c.refusal.result c.state.ensures c.number.ensures.value (c.lend.ensures.lent ∙ c.name.ensures) (search rules) fit c.refusal.ensures in
    ap (λ (e : StepError). Some e) c.from.ensures ∙ ap (λ (o : Option Refusal). option_map as_step_error o) (sym c.in-Some-refusal.is) ∙ sym passed

pub returns-in-None : goal.returns-in-None
returns-in-None c =
    let k = c.args.self.now in
    let u = c.args.update.now in
    let d = c.in-Some.table.now in
    let fit : fits k.state.received (messages.Update u) ≡ true = update_fits_received k.state.received u d (search rules) (search rules) c.id-id.ensures.defined in
    let passed : update_refusal k u (selected_table k.state.received) ≡ option_map as_step_error c.refusal.result = refusal_here k c.state.result.now u d c.number.result (owned_name c.lend.result) c.refusal.result c.state.ensures c.number.ensures.value (c.lend.ensures.lent ∙ c.name.ensures) (search rules) fit c.refusal.ensures in
    ap (λ (o : Option Refusal). option_map as_step_error o) (sym c.in-None.is) ∙ sym passed
