use Rattle.known_state.proofs.SavingsAreBounded.{accepted_same}
use Rattle.known_state.proofs.plan_laws.accepted_plans_save_the_same.Goals as goal

pub returns : goal.returns
returns c = accepted_same
