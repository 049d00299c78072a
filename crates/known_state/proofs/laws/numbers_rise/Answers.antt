use Rattle.known_state.proofs.LastNumbersRise.{rising-step}
use Rattle.known_state.proofs.laws.numbers_rise.Goals as goal

pub returns-clause-step : goal.returns-clause-step
returns-clause-step c = rising-step
