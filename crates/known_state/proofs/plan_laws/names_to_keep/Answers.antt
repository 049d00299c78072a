use Rattle.known_state.proofs.NamesToKeep.{names_to_keep}
use Rattle.known_state.proofs.plan_laws.names_to_keep.Goals as goal

pub returns : goal.returns
returns c = names_to_keep
