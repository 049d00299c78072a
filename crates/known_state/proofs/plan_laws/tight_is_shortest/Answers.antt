use Rattle.known_state.proofs.AcceptedIsShortest.{tight_shortest}
use Rattle.known_state.proofs.plan_laws.tight_is_shortest.Goals as goal

pub returns : goal.returns
returns c = tight_shortest
