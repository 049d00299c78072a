use Rattle.known_state.proofs.LegalEffects.{legal_step, legal_own}
use Rattle.known_state.proofs.known.Known.follow.Goals as goal

pub invariant_of-self-2 : goal.invariant_of-self-2
invariant_of-self-2 c =
    legal_own c.args.self.now c.self.inside.roster c.self.inside.state.value c.make.new.self c.args.message c.effect-effect.result c.self.view_is c.self.invariant c.effect-effect.ensures (rw c.deref_mut.ensures.value at c.in_ok-make.ensures.made)

pub returns-clause-step : goal.returns-clause-step
returns-clause-step c =
    legal_step c.args.self.now c.self.inside.roster c.self.inside.state.value c.make.new.self c.args.message c.effect-effect.result c.self.view_is c.effect-effect.ensures (rw c.deref_mut.ensures.value at c.in_ok-make.ensures.made)
