use Rattle.known_state.proofs.SavingsAreBounded.{prices_rise}
use Rattle.known_state.proofs.plan_laws.prices_add_up.Goals as goal

pub returns : goal.returns
returns c = prices_rise
