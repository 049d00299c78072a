use Rattle.known_state.proofs.SavingsAreBounded.{tight}
use Rattle.known_state.proofs.plan_laws.fitting_prices_are_tight.Goals as goal

pub returns : goal.returns
returns c = tight
