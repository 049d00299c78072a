use Rattle.std.proofs.Common.{◌≡◌, Option, Some, sym, ap, ◌∙◌}
use Rattle.std.specs.Prelude.{option_map}
use Rattle.peers_msg.specs.Borrowed.{owned_name}
use Rattle.peers_msg.specs.Received.{selected_table}
use Rattle.known_state.specs.Known.{as_step_error, update_refusal}
use Rattle.known_state.specs.declared.effect.Refusal.{Refusal}
use Rattle.known_state.specs.declared.known.StepError.{StepError}
use Rattle.known_state.proofs.LegalEffects.{refusal_here}
use Rattle.known_state.proofs.RefusedIsNoStep.{selection}
use Rattle.price_checker.proofs.reading.refusal_of_update.Goals as goal

pub returns-in-Some : goal.returns-in-Some
returns-in-Some c =
    let k = c.args.known.now in
    let u = c.args.update.now in
    let found = selection k.state.received u c.requires in
    let passed : update_refusal k u (selected_table k.state.received) ≡ option_map as_step_error c.refusal.result = refusal_here k c.state.result.now u found.0 c.number.result (owned_name c.name.result) c.refusal.result c.state.ensures c.number.ensures.value c.name.ensures.value found.1 c.requires c.refusal.ensures in
    ap (λ (e : StepError). Some e) c.from.ensures ∙ ap (λ (o : Option Refusal). option_map as_step_error o) (sym c.in-Some.is) ∙ sym passed

pub returns-in-None : goal.returns-in-None
returns-in-None c =
    let k = c.args.known.now in
    let u = c.args.update.now in
    let found = selection k.state.received u c.requires in
    let passed : update_refusal k u (selected_table k.state.received) ≡ option_map as_step_error c.refusal.result = refusal_here k c.state.result.now u found.0 c.number.result (owned_name c.name.result) c.refusal.result c.state.ensures c.number.ensures.value c.name.ensures.value found.1 c.requires c.refusal.ensures in
    ap (λ (o : Option Refusal). option_map as_step_error o) (sym c.in-None.is) ∙ sym passed
