use Rattle.known_state.proofs.SavingsAreBounded.{savings_bounded}
use Rattle.known_state.proofs.plan_laws.savings_are_bounded.Goals as goal

pub returns : goal.returns
returns c = savings_bounded
