use Rattle.node_core.proofs.SameShapes.{learned}
use Rattle.node_core.proofs.difference_laws.what_differs_is_not_learned.Goals as goal

pub returns : goal.returns
returns c = learned
