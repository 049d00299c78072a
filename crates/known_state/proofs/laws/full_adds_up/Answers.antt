use Rattle.known_state.proofs.FullIsCost.{full_is_cost}
use Rattle.known_state.proofs.laws.full_adds_up.Goals as goal

pub returns : goal.returns
returns c = full_is_cost
