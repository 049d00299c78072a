use Rattle.known_state.proofs.EffectsAreSteps.{effect_steps, no_other, refused_steps}
use Rattle.known_state.proofs.effect.effects_are_steps.Goals as goal

pub returns-clause-step : goal.returns-clause-step
returns-clause-step c = effect_steps

pub returns-clause-only : goal.returns-clause-only
returns-clause-only c = no_other

pub returns-clause-refused : goal.returns-clause-refused
returns-clause-refused c = refused_steps
