use Rattle.known_state.proofs.RefusedIsNoStep.{no_step}
use Rattle.known_state.proofs.laws.refused_is_no_step.Goals as goal

pub returns : goal.returns
returns c = no_step
