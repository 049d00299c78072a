use Rattle.known_state.proofs.FullIsCost.{step_pays_full}
use Rattle.known_state.proofs.laws.a_step_pays.Goals as goal

pub returns : goal.returns
returns c = step_pays_full
