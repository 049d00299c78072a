use Rattle.std.proofs.Common.{subst}
use Rattle.peers_msg.specs.declared.message.Message.{Message}
use Rattle.known_state.specs.State.{Step}
use Rattle.price_checker.specs.declared.comparison.Comparison.{Comparison}
use Rattle.price_checker.specs.Readings.{Compares}
use Rattle.price_checker.proofs.comparison.Comparison.after.Goals as goal

pub returns-in-Same-Update : goal.returns-in-Same-Update
returns-in-Same-Update c = λ carried one e compares step.
    c.after_update.ensures carried one e (subst (λ (x : Comparison). Compares x carried c.args.updates.now) c.in-Same-Update.is-0 compares) (subst (λ (m : Message). Step c.args.state.now m one e) c.in-Same-Update.is-1 step)
