use Rattle.known_state.proofs.LegalMessagesFit.{steps_fit}
use Rattle.known_state.proofs.laws.steps_fit.Goals as goal

pub returns : goal.returns
returns c = steps_fit
