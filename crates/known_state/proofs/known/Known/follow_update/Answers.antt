use Rattle.peers_msg.specs.Borrowed.{owned_name}
use Rattle.known_state.proofs.LegalEffects.{resolved_step}
use Rattle.known_state.proofs.known.Known.follow_update.Goals as goal

pub returns-clause-step : goal.returns-clause-step
returns-clause-step c = λ u is_number is_name fit.
    resolved_step c.args.self.now c.self.inside.roster c.self.inside.state.value c.follow_update.new.self c.args.number (owned_name c.args.field) c.self.view_is (rw c.deref_mut.ensures.value at c.in_ok-follow_update.ensures.made) u is_number is_name fit
