use Rattle.known_state.proofs.ResumedAsReceived.{gives_back}
use Rattle.known_state.proofs.laws.resuming_gives_back.Goals as goal

pub returns : goal.returns
returns c = gives_back
