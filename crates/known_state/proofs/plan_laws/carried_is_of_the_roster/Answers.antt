use Rattle.known_state.proofs.AcceptedIsShortest.{legal_of_roster}
use Rattle.known_state.proofs.plan_laws.carried_is_of_the_roster.Goals as goal

pub returns : goal.returns
returns c = legal_of_roster
