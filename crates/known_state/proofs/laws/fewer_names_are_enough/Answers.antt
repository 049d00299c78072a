use Rattle.known_state.proofs.FewerNames.{legal_alike, forgotten_alike}
use Rattle.known_state.proofs.laws.fewer_names_are_enough.Goals as goal

pub returns-clause-legal : goal.returns-clause-legal
returns-clause-legal c = legal_alike

pub returns-clause-forgotten : goal.returns-clause-forgotten
returns-clause-forgotten c = forgotten_alike
