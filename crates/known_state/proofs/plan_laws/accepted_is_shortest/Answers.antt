use Rattle.known_state.proofs.AcceptedIsShortest.{accepted_shortest}
use Rattle.known_state.proofs.plan_laws.accepted_is_shortest.Goals as goal

pub returns : goal.returns
returns c = accepted_shortest
